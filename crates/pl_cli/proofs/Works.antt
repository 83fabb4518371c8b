-- The work of `state`, where nothing is wrong with the words.
use Rattle.std.proofs.Common.{◌≡◌, ◌∙◌, sym, ap, refl, arith, ℕ, ◌+◌, ◌<◌, ◌≤◌, suc, zero, Bool, true, false, cond, List, Option, Some, None, IsSome, is_some, length, count_by, find, zero-add, add-zero, nat_le, ◌&&◌, rules}
use Rattle.std.specs.List.{range_with_len}
use Rattle.std.specs.Option.{option_map_or}
use Rattle.std.specs.Prelude.{slice_get}
use Rattle.std.proofs.lemmas.Bool.{and_parts, leb-true}
use Rattle.std.proofs.lemmas.List.Sums.{sum_by-cons}
use Rattle.pl_cli.specs.Table.{fits, forms_of}
use Rattle.pl_cli.specs.Place.{first_positional, is_positional, may_stand, may_stand_as, positional_before, role_of, word_at}
use Rattle.pl_cli.specs.Reading.{fault_place, host_words_fit, is_complete, options_given, work_given}
use Rattle.pl_cli.specs.declared.table.HostRule.TheVariants.{Nothing}
use Rattle.pl_cli.specs.declared.table.CommandName.TheVariants.{State}
use Rattle.pl_cli.specs.declared.table.Form.TheVariants.{Work}
use Rattle.pl_cli.specs.declared.place.Role.{Role}
use Rattle.pl_cli.specs.declared.place.Role.TheVariants.{Command, KnownOption, UnknownOption, Value, Positional}
use Rattle.pl_cli.proofs.Completeness.{complete}
use Rattle.pl_cli.proofs.Scopes.{stands}

-- the first number of a range that passes, counted from the range's own start
pub record IsFirst (test : ℕ → Bool) (from len count : ℕ) : Type 0 where
  pub found : find test (range_with_len from len) ≡ Some (from + count)
  pub within : count < len
  pub before : count_by test (range_with_len from count) ≡ 0
  pub passes : test (from + count) ≡ true

first_here : (test : ℕ → Bool) (from len : ℕ) → test from ≡ true → IsFirst test from (suc len) 0
first_here test from len h = record {
  found = rw (h, add-zero);
  within = omega arith;
  before = refl;
  passes = rw add-zero h;
}

-- how many of a range pass: its first number, and the rest
count-range : (test : ℕ → Bool) (from len : ℕ) (passes : Bool) → test from ≡ passes → count_by test (range_with_len from (suc len)) ≡ cond passes 1 0 + count_by test (range_with_len (from + 1) len)
count-range test from len passes h =
    sum_by-cons (λ (x : ℕ). cond (test x) 1 0) from (range_with_len (from + 1) len)
    ∙ ap (λ (b : Bool). cond b 1 0 + count_by test (range_with_len (from + 1) len)) h

first_later : (test : ℕ → Bool) (from len count : ℕ) → test from ≡ false → IsFirst test (from + 1) len count → IsFirst test from (suc len) (suc count)
first_later test from len count h first =
    let e : from + 1 + count ≡ from + suc count = omega arith in record {
      found = rw h (first.found ∙ ap Some e);
      within = let below : count < len = first.within in omega arith;
      before = count-range test from count false h ∙ zero-add _ ∙ first.before;
      passes = rw e at first.passes;
    }

first_by : (test : ℕ → Bool) (from len : ℕ) → 1 ≤ count_by test (range_with_len from (suc len)) → (1 ≤ count_by test (range_with_len (from + 1) len) → (count : ℕ) × IsFirst test (from + 1) len count) → (passes : Bool) → test from ≡ passes → (count : ℕ) × IsFirst test from (suc len) count
first_by test from len h rest true e = (0, first_here test from len e)
first_by test from len h rest false e =
    let counted : count_by test (range_with_len from (suc len)) ≡ 0 + count_by test (range_with_len (from + 1) len) = count-range test from len false e in
    let later = rest (omega arith) in
    (suc later.0, first_later test from len later.0 e later.1)

-- where some number passes, one is the first
first-from_count : (test : ℕ → Bool) (from len : ℕ) → 1 ≤ count_by test (range_with_len from len) → (count : ℕ) × IsFirst test from len count
first-from_count test from zero h = let no : 1 ≤ 0 = h in absurd (omega arith)
first-from_count test from (suc len) h = first_by test from len h (λ more. first-from_count test (from + 1) len more) (test from) refl

is_positional-true : (role : Role) → is_positional role ≡ true → role ≡ Positional
is_positional-true Positional h = refl
is_positional-true Command h = cc
is_positional-true (KnownOption _) h = cc
is_positional-true UnknownOption h = cc
is_positional-true (Value _) h = cc

IsSome-true : {X : Type 0} → (found : Option X) → is_some found ≡ true → IsSome found
IsSome-true None h = cc
IsSome-true (Some _) h = search rules

-- a complete `state` has a positional word
has_positional : (words host : List (List ℕ)) → is_complete State words host ≡ true → 1 ≤ positional_before State words (length words)
unfolding is_complete
has_positional words host h =
    let parts = and_parts (options_given State words && nat_le 1 (positional_before State words (length words))) (host_words_fit Nothing host) h in
    leb-true _ _ (and_parts (options_given State words) _ parts.0).1

-- the first positional word has the form of a work
fits_first : (words : List (List ℕ)) (place : ℕ) → may_stand State words place ≡ true → role_of State words place ≡ Positional → positional_before State words place ≡ 0 → fits Work (word_at words place) ≡ true
unfolding may_stand
fits_first words place stood role none =
    let standing : may_stand_as Positional State words place ≡ true = sym (ap (λ role. may_stand_as role State words place) role) ∙ stood in
    sym (ap (λ count. option_map_or (λ form. fits form (word_at words place)) (slice_get (forms_of State) count) false) none) ∙ standing

-- where the first positional place is found, its word is the first positional one
first_positional-at : (words : List (List ℕ)) (place : ℕ) → find (λ place. is_positional (role_of State words place)) (range_with_len 0 (length words)) ≡ Some place → first_positional State words ≡ Some (word_at words place)
unfolding first_positional
first_positional-at words place h = rw h

work-from_first : (words host : List (List ℕ)) (place : ℕ) → fault_place State words host ≡ None → IsFirst (λ place. is_positional (role_of State words place)) 0 (length words) place → IsSome (work_given words)
unfolding positional_before
work-from_first words host place faultless first =
    let stood = stands State words host place faultless first.within in
    let passes : is_positional (role_of State words place) ≡ true = rw zero-add at first.passes in
    let found : find (λ place. is_positional (role_of State words place)) (range_with_len 0 (length words)) ≡ Some place = first.found ∙ ap Some (zero-add place) in
    let fit = fits_first words place stood (is_positional-true _ passes) first.before in
    rw (first_positional-at words place found) (IsSome-true _ fit)

counted : (words : List (List ℕ)) → 1 ≤ positional_before State words (length words) → 1 ≤ count_by (λ place. is_positional (role_of State words place)) (range_with_len 0 (length words))
unfolding positional_before
counted words h = h

-- the words of a `state` without a fault give it a work
pub given_work : (words host : List (List ℕ)) → fault_place State words host ≡ None → IsSome (work_given words)
given_work words host h =
    let first = first-from_count (λ place. is_positional (role_of State words place)) 0 (length words) (counted words (has_positional words host (complete State words host h))) in
    work-from_first words host first.0 h first.1
