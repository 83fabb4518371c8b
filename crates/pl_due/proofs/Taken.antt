-- The first work that is due and can be taken up: a post where the writing half is at home, or else what is due where no
-- problem stands.
use Rattle.std.proofs.Common.{◌≡◌, ◌∙◌, ℕ, Bool, true, false, not, ◌&&◌, if◌then◌else◌, List, ◌++◌, find, map, reverse, Option, Some, None, option_map, refl, sym, ap, ap₂}
use Rattle.std.specs.Option.{option_or}
use Rattle.pl_events.specs.Lanes.{LanesTold}
use Rattle.pl_model.specs.Choice.{can_be_taken}
use Rattle.pl_model.specs.Due.{all_sends, goal_numbers, is_post_due, pending_numbers, request_numbers}
use Rattle.pl_model.specs.Known.{Known, has_problem}
use Rattle.pl_model.specs.Rows.{row_numbers}
use Rattle.pl_model.specs.declared.work.Work.{Work}
use Rattle.pl_model.specs.declared.work.Work.TheVariants as work
use Rattle.pl_due.specs.Now.{clears_of, due_now, may_now, others_of, removals_of, taken_now}
use Rattle.pl_due.specs.Seen.{known_in}
use Rattle.pl_due.specs.declared.seen.Seen.{Seen}
use Rattle.pl_due.proofs.Finding.{find_append, find_mapped, first_of, nothing_found, second_of}

-- what stands behind a gate is found where that is open
gated : {X : Type 0} (gate : Bool) (p : X → Bool) (xs : List X) → find (λ x. gate && p x) xs ≡ (if gate then find p xs else None)
gated true p xs = refl
gated false p xs = nothing_found xs

module _ (gate : Bool) (all due : Work → Bool) where
  -- all of a list stand behind the gate
  abbrev Stands : List Work → Type 0
  Stands works = find all works ≡ (if gate then find due works else None)

  stands_mapped : {X : Type 0} (f : X → Work) (xs : List X) → find (λ x. all (f x)) xs ≡ find (λ x. gate && due (f x)) xs → Stands (map f xs)
  stands_mapped {X = X} f xs same =
      find_mapped all f xs
      ∙ ap (λ (o : Option X). option_map f o) (same ∙ gated gate (λ x. due (f x)) xs)
      ∙ by gate
    where
      by : (b : Bool) → option_map f (if b then find (λ x. due (f x)) xs else None) ≡ (if b then find due (map f xs) else None)
      by true = sym (find_mapped due f xs)
      by false = refl

  stands_both : (xs ys : List Work) → Stands xs → Stands ys → Stands (xs ++ ys)
  stands_both xs ys first second =
      find_append all xs ys
      ∙ ap₂ (λ (a b : Option Work). option_or a b) first second
      ∙ by gate
    where
      by : (b : Bool) → option_or (if b then find due xs else None) (if b then find due ys else None) ≡ (if b then find due (xs ++ ys) else None)
      by true = sym (find_append due xs ys)
      by false = refl

module _ (seen : Seen) (table : LanesTold) where
  abbrev known : Known
  known = known_in seen

  abbrev test : Work → Bool
  test one = can_be_taken table.half_home one && (may_now known one && due_now seen table one)

  posts : option_map work.Post (if table.half_home then find (is_post_due known) seen.requests.now else None)
      ≡ find test (map work.Post (request_numbers known))
  posts =
      ap (λ (o : Option ℕ). option_map work.Post o) (sym (gated table.half_home (is_post_due known) seen.requests.now))
      ∙ sym (find_mapped test work.Post seen.requests.now)
      ∙ ap (λ (numbers : List ℕ). find test (map work.Post numbers)) seen.are_requests

  others : find test (others_of known) ≡ (if not (has_problem known) then find (due_now seen table) (others_of known) else None)
  others =
      stands_both (not (has_problem known)) test (due_now seen table) (map work.Keep (goal_numbers known)) (clears_of known)
      (stands_mapped (not (has_problem known)) test (due_now seen table) work.Keep (goal_numbers known) refl)
      (stands_both (not (has_problem known)) test (due_now seen table) (map work.Clear (pending_numbers known)) (removals_of known)
      (stands_mapped (not (has_problem known)) test (due_now seen table) work.Clear (pending_numbers known) refl)
      (stands_both (not (has_problem known)) test (due_now seen table) (map work.Drop (reverse (row_numbers known))) (map work.Send (all_sends known))
      (stands_mapped (not (has_problem known)) test (due_now seen table) work.Drop (reverse (row_numbers known)) refl)
      (stands_mapped (not (has_problem known)) test (due_now seen table) work.Send (all_sends known) refl)))

  pub post_taken : (n : ℕ) → Some n ≡ (if table.half_home then find (is_post_due known) seen.requests.now else None)
      → Some (work.Post n) ≡ taken_now seen table
  post_taken n found =
      first_of test (map work.Post (request_numbers known)) (others_of known) (work.Post n)
      (ap (λ (o : Option ℕ). option_map work.Post o) found ∙ posts)

  pub other_taken : None ≡ (if table.half_home then find (is_post_due known) seen.requests.now else None)
      → (taken : Option Work) → taken ≡ (if has_problem known then None else find (due_now seen table) (others_of known))
      → taken ≡ taken_now seen table
  other_taken none taken is =
      second_of test (map work.Post (request_numbers known)) (others_of known) taken
      (ap (λ (o : Option ℕ). option_map work.Post o) none ∙ posts)
      (is ∙ by (has_problem known) ∙ sym others)
    where
      by : (b : Bool) → (if b then None else find (due_now seen table) (others_of known)) ≡ (if not b then find (due_now seen table) (others_of known) else None)
      by true = refl
      by false = refl
