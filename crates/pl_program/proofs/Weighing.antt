-- Each step of a talk leaves less to be done.
use Rattle.std.proofs.Common.{◌≡◌, ℕ, ◌+◌, ◌-◌, ◌*◌, ◌<◌, ◌≤◌, ◌==◌, Bool, true, false, not, ◌||◌, List, [], ◌∷◌, length, if◌then◌else◌, Option, None, Some, nat_le, nat_lt, option_map, slice_get, refl, ap, subst, arith, length-append}
use Rattle.std.specs.List.{list_any}
use Rattle.std.proofs.lemmas.Option.{slice_get_within}
use Rattle.pl_events.specs.declared.event.Answer.{Answer}
use Rattle.pl_events.specs.declared.event.Answer.TheVariants.{Registered, Noted, Result, Refused}
use Rattle.pl_events.specs.declared.event.Request.{Request}
use Rattle.pl_host_word.specs.Answer.{answer_in}
use Rattle.pl_host_word.specs.Spelled.{word_text}
use Rattle.pl_host_word.specs.declared.word.HostWord.{HostWord}
use Rattle.pl_host_word.specs.declared.word.HostWord.TheVariants.{Request as Asks, Success, Error}
use Rattle.pl_program_file.specs.Registered.{Pairs}
use Rattle.pl_program_file.specs.declared.program.Program.{Program}
use Rattle.pl_program_file.specs.declared.program.Resource.{Resource}
use Rattle.pl_world.specs.declared.frames.TheConstants.{MAX_BODY}
use Rattle.pl_program.specs.Due.{next_word, said, stack_word, too_long_word, turn_for, turn_of, word_at, word_at_outputs, word_due, word_unless}
use Rattle.pl_program.specs.Heard.{answered, asked, heard, heard_told, is_unanswered, taken_up, with_row, without}
use Rattle.pl_program.specs.Told.{Steps, asks, hears}
use Rattle.pl_program.specs.declared.talk.Talk.{Talk}
use Rattle.pl_program.specs.declared.talk.Turn.TheVariants.{Ask}

-- twice the requests that are left, and the answers that are awaited
abbrev pub weight : Talk → ℕ
weight talk = 2 * (length talk.program.resources + 2 - talk.asked) + length talk.unanswered

-- ---- a request is sent only where one is left

-- a request is left
abbrev pub IsLeft : Talk → Type 0
IsLeft talk = talk.asked ≤ length talk.program.resources + 1

asks-outputs : (none at : Bool) (talk : Talk) (request : Request) → (talk.asked == length talk.program.resources + 1) ≡ at
    → (if none then (if at then word_at_outputs talk talk.program.outputs else Some Success) else None) ≡ Some (Asks request) → IsLeft talk
asks-outputs true true talk request is due = grind arith
asks-outputs true false talk request is due = absurd (cc)
asks-outputs false at talk request is due = absurd (cc)

asks-at : (talk : Talk) (found : Option Resource) (request : Request) → slice_get talk.program.resources (talk.asked - 1) ≡ found → word_at talk found ≡ Some (Asks request) → IsLeft talk
asks-at talk (Some resource) request is due =
    let within = slice_get_within talk.program.resources (talk.asked - 1) resource is in
    omega arith
asks-at talk None request is due =
    asks-outputs (length talk.unanswered == 0) (talk.asked == length talk.program.resources + 1) talk request refl due

asks-first : (first : Bool) (talk : Talk) (request : Request) → (talk.asked == 0) ≡ first
    → (if first then Some (stack_word talk) else word_at talk (slice_get talk.program.resources (talk.asked - 1))) ≡ Some (Asks request) → IsLeft talk
asks-first true talk request is due = grind arith
asks-first false talk request is due = asks-at talk _ request refl due

asks-next : (talk : Talk) (request : Request) → next_word talk ≡ Some (Asks request) → IsLeft talk
asks-next talk request due = asks-first (talk.asked == 0) talk request refl due

asks-due : (talk : Talk) (error : Option (List ℕ)) (request : Request) → word_unless talk error ≡ Some (Asks request) → IsLeft talk
asks-due talk None request due = asks-next talk request due
asks-due talk (Some text) request due = absurd (cc)

said-asks : (word : HostWord) (body : List ℕ) → said word ≡ Ask body → (request : Request) × (word ≡ Asks request)
said-asks (Asks request) body is = (request, refl)
said-asks Success body is = absurd (cc)
said-asks (Error text) body is = absurd (cc)

chosen-asks : (fits : Bool) (word : HostWord) (body : List ℕ) → (if fits then said word else said too_long_word) ≡ Ask body → (request : Request) × (word ≡ Asks request)
chosen-asks true word body is = said-asks word body is
chosen-asks false word body is = absurd (cc)

turn-asks : (due : Option HostWord) (body : List ℕ) → turn_for due ≡ Ask body → (request : Request) × (due ≡ Some (Asks request))
turn-asks None body is = absurd (cc)
turn-asks (Some word) body is =
    let found = chosen-asks (nat_le (length (word_text word)) MAX_BODY) word body is in
    (found.0, ap Some found.1)

pub is_left : (talk : Talk) (body : List ℕ) → turn_of talk ≡ Ask body → IsLeft talk
unfolding turn_of word_due
is_left talk body is =
    let found = turn-asks (word_unless talk talk.error) body is in
    asks-due talk talk.error found.0 found.1

-- ---- an answer is one that was awaited

-- one number more, which is left or not
shorter-by : (leaves : Bool) (number : ℕ) (left more : List ℕ) → length left ≤ length more → length (if leaves then number ∷ left else left) ≤ length (number ∷ more)
shorter-by true number left more rest = omega arith
shorter-by false number left more rest = omega arith

without-shorter : (n : ℕ) (numbers : List ℕ) → length (without n numbers) ≤ length numbers
without-shorter n [] = omega arith
without-shorter n (number ∷ more) = shorter-by (not (number == n)) number (without n more) more (without-shorter n more)

lighter-by : (met others : Bool) (number : ℕ) (left more : List ℕ) → (met || others) ≡ true → length left ≤ length more → (others ≡ true → length left < length more)
    → length (if not met then number ∷ left else left) < length (number ∷ more)
lighter-by true others number left more is shorter rest = omega arith
lighter-by false others number left more is shorter rest = let less = rest is in omega arith

without-lighter : (n : ℕ) (numbers : List ℕ) → list_any (λ number. number == n) numbers ≡ true → length (without n numbers) < length numbers
without-lighter n [] is = absurd (cc)
without-lighter n (number ∷ more) is =
    lighter-by (number == n) (list_any (λ other. other == n) more) number (without n more) more is (without-shorter n more) (without-lighter n more)

-- what an answer leaves
record SameWork (before now : Talk) : Type 0 where
  pub program : now.program ≡ before.program
  pub asked : now.asked ≡ before.asked
  pub unanswered : now.unanswered ≡ before.unanswered

same-by : (before made now : Talk) → SameWork before made → Some made ≡ Some now → SameWork before now
same-by before made now same is = let e : made ≡ now = cc in subst (λ (t : Talk). SameWork before t) e same

same-row : (urn : List ℕ) (id : Option (List ℕ)) (outputs : Pairs) (before now : Talk) (found : Option Resource) → option_map (with_row urn id outputs before) found ≡ Some now → SameWork before now
same-row urn id outputs before now None is = absurd (cc)
same-row urn id outputs before now (Some resource) is =
    same-by before (with_row urn id outputs before resource) now (record { program = refl; asked = refl; unanswered = refl }) is

same-resource : (first : Bool) (n : ℕ) (urn : List ℕ) (id : Option (List ℕ)) (outputs : Pairs) (before now : Talk)
    → (if first then Some (record before { stack = Some urn }) else option_map (with_row urn id outputs before) (slice_get before.program.resources (n - 2))) ≡ Some now
    → SameWork before now
same-resource true n urn id outputs before now is =
    same-by before (record before { stack = Some urn }) now (record { program = refl; asked = refl; unanswered = refl }) is
same-resource false n urn id outputs before now is = same-row urn id outputs before now (slice_get before.program.resources (n - 2)) is

same-noted : (stands : Bool) (before now : Talk) → (if stands then Some before else None) ≡ Some now → SameWork before now
same-noted true before now is = same-by before before now (record { program = refl; asked = refl; unanswered = refl }) is
same-noted false before now is = absurd (cc)

same-work : (n : ℕ) (answer : Answer) (before now : Talk) → taken_up n answer before ≡ Some now → SameWork before now
same-work n (Registered urn id outputs) before now is = same-resource (n == 1) n urn id outputs before now is
same-work n Noted before now is = same-noted (nat_lt (length before.program.resources + 1) n) before now is
same-work n (Result fields) before now is = absurd (cc)
same-work n (Refused text) before now is =
    same-by before (record before { error = Some text }) now (record { program = refl; asked = refl; unanswered = refl }) is

lighter-if : (awaited : Bool) (n : ℕ) (answer : Answer) (before now : Talk) → is_unanswered before n ≡ awaited
    → (if awaited then taken_up n answer (answered n before) else None) ≡ Some now → weight now < weight before
lighter-if false n answer before now awaited is = absurd (cc)
lighter-if true n answer before now awaited is =
    let same = same-work n answer (answered n before) now is in
    let resources : length now.program.resources ≡ length before.program.resources = ap (λ (p : Program). length p.resources) same.program in
    let count : now.asked ≡ before.asked = same.asked in
    let left : length now.unanswered ≡ length (without n before.unanswered) = ap length same.unanswered in
    let fewer = without-lighter n before.unanswered awaited in
    omega arith

lighter-told : (told : Option (ℕ × Answer)) (before now : Talk) → heard_told told before ≡ Some now → weight now < weight before
lighter-told None before now is = absurd (cc)
lighter-told (Some told) before now is = lighter-if (is_unanswered before told.0) told.0 told.1 before now refl is

lighter-asked : (talk : Talk) → IsLeft talk → weight (asked talk) < weight talk
lighter-asked talk left = omega (arith, length-append talk.unanswered ((talk.asked + 1) ∷ []))

pub lighter : (before now : Talk) (given taken : List ℕ) → Steps before now given taken → weight now < weight before
unfolding heard
lighter before now given taken (asks body is) = lighter-asked before (is_left before body is)
lighter before now given taken (hears body later is whole told) = lighter-told (answer_in body) before later told
