-- Which number a new thing gets, and what becomes of the shelf.
use Rattle.std.proofs.Common.{◌≡◌, ℕ, zero, suc, ◌+◌, ◌<◌, ◌≤◌, ◌||◌, Bool, true, false, cond, ◌⊎◌, inl, inr, List, [], ◌∷◌, ◌++◌, find, Option, option_map, Some, None, is_none, IfSome, bytes_eq, codes, refl, sym, ap, subst, ◌∙◌, arith}
use Rattle.std.proofs.lemmas.Bool.{cases_Bool, cases_lt, false≢true}
use Rattle.std.proofs.lemmas.Fmt.{decimal_injective}
use Rattle.std.proofs.lemmas.List.{append_cancel_left}
use Rattle.std.proofs.lemmas.List.Folds.{find-append}
use Rattle.std.proofs.lemmas.Slice.Eq.{bytes_eq-Decides}
use Rattle.std.specs.Fmt.{decimal}
use Rattle.std.specs.Option.{option_or}
use Rattle.pl_world.specs.Numbers.{numbers_to}
use Rattle.pl_toy.specs.Things.{Things, Became, IsKeptOrBecame, with_thing, with_new}
use Rattle.pl_toy.specs.Table.{ForHeld, is_long, ends_search, most_numbers, numbered, number_for, place_by, with_placed, with_created}
use Rattle.pl_toy.specs.declared.create.Place.{Place}
use Rattle.pl_toy.specs.declared.create.Place.TheVariants.{Under, LongName, Full}
use Rattle.pl_toy.proofs.Held.{with_new-none, with_new-some}

-- ---- the least number

none_of : (test : ℕ → Bool) (n : ℕ) → ((j : ℕ) → 1 ≤ j → j < n + 1 → test j ≡ false) → find test (numbers_to n) ≡ None
none_of test zero none = refl
none_of test (suc n) none =
    find-append test (numbers_to n) (suc n ∷ [])
    ∙ ap (λ (found : Option ℕ). option_or found (find test (suc n ∷ []))) (none_of test n (λ j from below. none j from (omega arith)))
    ∙ ap (λ (b : Bool). cond b (Some (suc n)) None) (none (suc n) (omega arith) (omega arith))

least_of : (test : ℕ → Bool) (n k : ℕ) → 1 ≤ k → k ≤ n → test k ≡ true → ((j : ℕ) → 1 ≤ j → j < k → test j ≡ false) → find test (numbers_to n) ≡ Some k
least_of test zero k from within here before = absurd (omega arith)
least_of test (suc n) k from within here before =
    elim (cases_lt n k) [
      | inl last ↦
          let e : suc n ≡ k = omega arith in
          find-append test (numbers_to n) (suc n ∷ [])
          ∙ ap (λ (found : Option ℕ). option_or found (find test (suc n ∷ []))) (none_of test n (λ j j_from below. before j j_from (omega arith)))
          ∙ ap (λ (b : Bool). cond b (Some (suc n)) None) (ap test e ∙ here)
          ∙ ap Some e
      | inr earlier ↦
          find-append test (numbers_to n) (suc n ∷ [])
          ∙ ap (λ (found : Option ℕ). option_or found (find test (suc n ∷ []))) (least_of test n k from earlier here before)
    ]

number_for-least : (held : Things) (name : List ℕ) (k : ℕ) → 1 ≤ k → k ≤ most_numbers → ends_search held (numbered name k) ≡ true
    → ((j : ℕ) → 1 ≤ j → j < k → ends_search held (numbered name j) ≡ false) → number_for held name ≡ Some k
unfolding number_for
number_for-least held name k from within here before =
    least_of (λ number. ends_search held (numbered name number)) most_numbers k from within here before

number_for-none : (held : Things) (name : List ℕ) → ((j : ℕ) → 1 ≤ j → j < most_numbers + 1 → ends_search held (numbered name j) ≡ false)
    → number_for held name ≡ None
unfolding number_for
number_for-none held name none = none_of (λ number. ends_search held (numbered name number)) most_numbers none

-- how many numbers a name has, as the program counts
pub most_numbers-is : most_numbers ≡ 1000
unfolding most_numbers
most_numbers-is = refl

-- ---- ids that are taken

-- the id is not too long, and where the things are told one has it
abbrev pub IsTaken : Option Things → List ℕ → Type 0
IsTaken told id = (is_long id ≡ false) × IfSome told (λ held. is_none (held id) ≡ false)

-- the ids of the numbers below this one are taken
abbrev pub AreTaken : Option Things → List ℕ → ℕ → Type 0
AreTaken told name n = (j : ℕ) → 1 ≤ j → j < n → IsTaken told (numbered name j)

-- ---- the place of a new thing

ends_at_short : (held : Things) (id : List ℕ) → is_long id ≡ false → ends_search held id ≡ is_none (held id)
ends_at_short held id short = ap (λ (b : Bool). b || is_none (held id)) short

ends_at_long : (held : Things) (id : List ℕ) → is_long id ≡ true → ends_search held id ≡ true
ends_at_long held id long = ap (λ (b : Bool). b || is_none (held id)) long

passed-told : (held : Things) (name : List ℕ) (n : ℕ) → AreTaken (Some held) name n → (j : ℕ) → 1 ≤ j → j < n → ends_search held (numbered name j) ≡ false
passed-told held name n taken j from below =
    let one : IsTaken (Some held) (numbered name j) = taken j from below in
    ends_at_short held (numbered name j) one.0 ∙ one.1

-- some things by which each of the ids is taken, where none are told
all_taken : Things
all_taken id = Some []

passed-all : (name : List ℕ) (n : ℕ) → AreTaken None name n → (j : ℕ) → 1 ≤ j → j < n → ends_search all_taken (numbered name j) ≡ false
unfolding all_taken
passed-all name n taken j from below = ends_at_short all_taken (numbered name j) (taken j from below).0

-- and by which each other id is
others_taken : List ℕ → Things
others_taken id other = cond (bytes_eq id other) None (Some [])

others_taken-here : (id : List ℕ) → is_none (others_taken id id) ≡ true
unfolding others_taken
others_taken-here id = ap (λ (b : Bool). is_none {T = List ℕ} (cond b None (Some []))) ((bytes_eq-Decides id id).1 refl)

others_taken-other : (id other : List ℕ) → bytes_eq id other ≡ false → is_none (others_taken id other) ≡ false
unfolding others_taken
others_taken-other id other apart = ap (λ (b : Bool). is_none {T = List ℕ} (cond b None (Some []))) apart

numbered-apart : (name : List ℕ) (j k : ℕ) → j < k → k ≤ 1000 → bytes_eq (numbered name k) (numbered name j) ≡ false
numbered-apart name j k below within =
    elim (cases_Bool (bytes_eq (numbered name k) (numbered name j))) [
      | inl same ↦
          let texts : decimal k ≡ decimal j = append_cancel_left (name ++ codes "-") (decimal k) (decimal j) ((bytes_eq-Decides (numbered name k) (numbered name j)).0 same) in
          let numbers : k ≡ j = decimal_injective k j (omega arith) (omega arith) texts in
          absurd (omega arith)
      | inr apart ↦ apart
    ]

passed-others : (name : List ℕ) (n : ℕ) → n ≤ 1000 → AreTaken None name n → (j : ℕ) → 1 ≤ j → j < n → ends_search (others_taken (numbered name n)) (numbered name j) ≡ false
passed-others name n within taken j from below =
    ends_at_short (others_taken (numbered name n)) (numbered name j) (taken j from below).0
    ∙ others_taken-other (numbered name n) (numbered name j) (numbered-apart name j n below within)

place-number : (held : Things) (name : List ℕ) (n : ℕ) → number_for held name ≡ Some n → place_by name (number_for held name) ≡ cond (is_long (numbered name n)) LongName (Under (numbered name n))
place-number held name n e = ap (place_by name) e

-- the place under the first free id
pub place-under : (told : Option Things) (name : List ℕ) (n : ℕ) → 1 ≤ n → n ≤ 1000 → is_long (numbered name n) ≡ false → IfSome told (λ held. true ≡ is_none (held (numbered name n))) → AreTaken told name n
    → ForHeld told (λ held. Under (numbered name n) ≡ place_by name (number_for held name))
place-under None name n from within short free taken =
    let held : Things = others_taken (numbered name n) in
    let id : List ℕ = numbered name n in
    let most : n ≤ most_numbers = subst (λ (m : ℕ). n ≤ m) (sym most_numbers-is) within in
    let here : ends_search held id ≡ true = ends_at_short held id short ∙ others_taken-here id in
    let e : number_for held name ≡ Some n = number_for-least held name n from most here (passed-others name n within taken) in
    (held, tt, sym (place-number held name n e ∙ ap (λ (b : Bool). cond b LongName (Under id)) short))
place-under (Some held) name n from within short free taken =
    let id : List ℕ = numbered name n in
    let most : n ≤ most_numbers = subst (λ (m : ℕ). n ≤ m) (sym most_numbers-is) within in
    let here : ends_search held id ≡ true = ends_at_short held id short ∙ sym free in
    let e : number_for held name ≡ Some n = number_for-least held name n from most here (passed-told held name n taken) in
    (held, refl, sym (place-number held name n e ∙ ap (λ (b : Bool). cond b LongName (Under id)) short))

-- none, where the first id that is not taken is too long
pub place-long : (told : Option Things) (name : List ℕ) (n : ℕ) → 1 ≤ n → n ≤ 1000 → is_long (numbered name n) ≡ true → AreTaken told name n
    → ForHeld told (λ held. LongName ≡ place_by name (number_for held name))
place-long None name n from within long taken =
    let id : List ℕ = numbered name n in
    let most : n ≤ most_numbers = subst (λ (m : ℕ). n ≤ m) (sym most_numbers-is) within in
    let e : number_for all_taken name ≡ Some n = number_for-least all_taken name n from most (ends_at_long all_taken id long) (passed-all name n taken) in
    (all_taken, tt, sym (place-number all_taken name n e ∙ ap (λ (b : Bool). cond b LongName (Under id)) long))
place-long (Some held) name n from within long taken =
    let id : List ℕ = numbered name n in
    let most : n ≤ most_numbers = subst (λ (m : ℕ). n ≤ m) (sym most_numbers-is) within in
    let e : number_for held name ≡ Some n = number_for-least held name n from most (ends_at_long held id long) (passed-told held name n taken) in
    (held, refl, sym (place-number held name n e ∙ ap (λ (b : Bool). cond b LongName (Under id)) long))

-- none, where all ids are taken
pub place-full : (told : Option Things) (name : List ℕ) → AreTaken told name 1001 → ForHeld told (λ held. Full ≡ place_by name (number_for held name))
place-full None name taken =
    let all : AreTaken None name (most_numbers + 1) = subst (λ (m : ℕ). AreTaken None name (m + 1)) (sym most_numbers-is) taken in
    (all_taken, tt, sym (ap (place_by name) (number_for-none all_taken name (passed-all name (most_numbers + 1) all))))
place-full (Some held) name taken =
    let all : AreTaken (Some held) name (most_numbers + 1) = subst (λ (m : ℕ). AreTaken (Some held) name (m + 1)) (sym most_numbers-is) taken in
    (held, refl, sym (ap (place_by name) (number_for-none held name (passed-told held name (most_numbers + 1) all))))

-- ---- what becomes of the things

-- the place is the one that the things give
abbrev pub IsPlaceOf : Option Things → List ℕ → Place → Type 0
IsPlaceOf told name place = ForHeld told (λ held. place ≡ place_by name (number_for held name))

at_told : (held : Things) (name : List ℕ) (place : Place) → IsPlaceOf (Some held) name place → place ≡ place_by name (number_for held name)
at_told held name place by = subst (λ (things : Things). place ≡ place_by name (number_for things name)) (sym by.1) by.2

-- nothing becomes of them where the id is too long
pub created-long : (told now : Option Things) (name bytes : List ℕ) → IsPlaceOf told name LongName → now ≡ told → Became (with_created name bytes) told now
created-long None now name bytes by same = same
created-long (Some held) now name bytes by same =
    same ∙ ap Some (ap (λ (place : Place). with_placed bytes place held) (at_told held name LongName by))

-- nor where all ids are taken
pub created-full : (told now : Option Things) (name bytes : List ℕ) → IsPlaceOf told name Full → now ≡ told → Became (with_created name bytes) told now
created-full None now name bytes by same = same
created-full (Some held) now name bytes by same =
    same ∙ ap Some (ap (λ (place : Place). with_placed bytes place held) (at_told held name Full by))

-- otherwise the thing is put under its id
pub created-under : (told now : Option Things) (name bytes id : List ℕ) → IsPlaceOf told name (Under id) → IfSome told (λ held. true ≡ is_none (held id)) → Became (with_new id bytes) told now
    → Became (with_created name bytes) told now
created-under None now name bytes id by free became = became
created-under (Some held) now name bytes id by free became =
    became
    ∙ ap Some (with_new-none id bytes held (sym free) ∙ ap (λ (place : Place). with_placed bytes place held) (at_told held name (Under id) by))

-- the same where the shelf failed, which may have put the thing there
pub failed-under : (told now : Option Things) (name bytes : List ℕ) (n : ℕ) → 1 ≤ n → n ≤ 1000 → is_long (numbered name n) ≡ false → AreTaken told name n
    → IsKeptOrBecame (with_new (numbered name n) bytes) told now → IsKeptOrBecame (with_created name bytes) told now
failed-under told now name bytes n from within short taken (inl kept) = inl kept
failed-under None now name bytes n from within short taken (inr became) = inl became
failed-under (Some held) now name bytes n from within short taken (inr became) =
    elim (cases_Bool (is_none (held (numbered name n)))) [
      | inl free ↦
          let by : IsPlaceOf (Some held) name (Under (numbered name n)) = place-under (Some held) name n from within short (sym free) taken in
          inr (created-under (Some held) now name bytes (numbered name n) by (sym free) became)
      | inr there ↦ inl (became ∙ ap Some (with_new-some (numbered name n) bytes held there))
    ]

-- ---- the same of an id that is the number's, and of things that have not changed so far

pub found-under : (told between : Option Things) (name id : List ℕ) (n : ℕ) → between ≡ told → id ≡ numbered name n → 1 ≤ n → n ≤ 1000 → is_long id ≡ false → IfSome between (λ held. true ≡ is_none (held id)) → AreTaken told name n
    → IsPlaceOf told name (Under id)
found-under told between name id n stays is_id from within short free taken =
    let Free : List ℕ → Type 0 = λ text. IfSome told (λ held. true ≡ is_none (held text)) in
    let now_free : Free id = subst (λ (things : Option Things). IfSome things (λ held. true ≡ is_none (held id))) stays free in
    subst (λ (text : List ℕ). IsPlaceOf told name (Under text)) (sym is_id)
    (place-under told name n from within (subst (λ (text : List ℕ). is_long text ≡ false) is_id short) (subst Free is_id now_free) taken)

pub put-under : (told between now : Option Things) (name bytes id : List ℕ) → between ≡ told → IsPlaceOf told name (Under id) → IfSome between (λ held. true ≡ is_none (held id)) → Became (with_new id bytes) between now
    → Became (with_created name bytes) told now
put-under told between now name bytes id stays by free became =
    created-under told now name bytes id by
    (subst (λ (things : Option Things). IfSome things (λ held. true ≡ is_none (held id))) stays free)
    (subst (λ (things : Option Things). Became (with_new id bytes) things now) stays became)

pub kept-under : (told between now : Option Things) (name bytes id : List ℕ) (n : ℕ) → between ≡ told → id ≡ numbered name n → 1 ≤ n → n ≤ 1000 → is_long id ≡ false → AreTaken told name n
    → IsKeptOrBecame (with_new id bytes) between now → IsKeptOrBecame (with_created name bytes) told now
kept-under told between now name bytes id n stays is_id from within short taken kept =
    failed-under told now name bytes n from within (subst (λ (text : List ℕ). is_long text ≡ false) is_id short) taken
    (subst (λ (text : List ℕ). IsKeptOrBecame (with_new text bytes) told now) is_id
    (subst (λ (things : Option Things). IsKeptOrBecame (with_new id bytes) things now) stays kept))
