-- The entry of a goal without the outputs that were told of it.
use Rattle.std.proofs.Common.{◌≡◌, ◌||◌, ℕ, Bool, false, not, if◌then◌else◌, List, [], Option, None, Some, option_and_then, option_map, refl, sym, ap, ◌∙◌}
use Rattle.pl_model.specs.Claims.{claimed_row, id_of_row, kept_provider_id}
use Rattle.pl_model.specs.Entries.{Result, entry_of, goal_entry, is_keep, is_update, kept_changed, kept_id, kept_new, kept_planned, kept_same, new_id, outputs_of_row, recording_of, result_of_keep, result_with, with_outputs}
use Rattle.pl_model.specs.Known.{Known, decided_goal, goal_at}
use Rattle.pl_model.specs.Run.{Pairs}
use Rattle.pl_model.specs.declared.decided.Decided.{Decided}
use Rattle.pl_state.specs.Kinds.{is_component, is_provider_goal}
use Rattle.pl_state.specs.declared.entry.Entry.{Entry}
use Rattle.pl_state.specs.declared.goal.Goal.{Goal}
use Rattle.pl_turn_asks.specs.Entries.{KeptIsMadeAgain, UntoldIsRecorded}

pub untold_is_recorded : UntoldIsRecorded
untold_is_recorded known number none =
    by (entry_of known number)
    ∙ sym (ap (λ (told : Option Pairs). option_map (with_outputs told) (entry_of known number)) none)
  where
    by : (o : Option Entry) → o ≡ option_map (with_outputs None) o
    by None = refl
    by (Some entry) = refl

-- ---- what a keep gives to a goal that is no provider

module _ (goal : Goal) (fresh : Option ℕ) (other : is_provider_goal goal ≡ false) where
  same_id : (claim : Option Entry) → kept_id goal claim fresh ≡ kept_id goal claim None
  same_id claim =
      ap (λ (b : Bool). if b then kept_provider_id claim fresh else id_of_row claim) other
      ∙ sym (ap (λ (b : Bool). if b then kept_provider_id claim None else id_of_row claim) other)

  same_new_id : (claim : Option Entry) → new_id goal claim fresh ≡ new_id goal claim None
  same_new_id claim =
      ap (λ (b : Bool). if b then kept_provider_id claim fresh else None) other
      ∙ sym (ap (λ (b : Bool). if b then kept_provider_id claim None else None) other)

  abbrev over_claim : Entry → Option (List ℕ) → Result
  over_claim claim id = record { id = id; outputs = claim.outputs; reasons = claim.init_errors; rest = claim.rest }

  same_kept : (claim : Option Entry) → kept_same goal claim fresh ≡ kept_same goal claim None
  same_kept None = refl
  same_kept (Some claim) = ap (over_claim claim) (same_id (Some claim))

  pub same_result : (claim : Option Entry) (one : Decided) → result_of_keep goal claim one fresh ≡ result_of_keep goal claim one None
  same_result claim one =
      let changed : kept_changed goal claim fresh ≡ kept_changed goal claim None =
      ap (λ (id : Option (List ℕ)). result_with id (outputs_of_row claim) []) (same_id claim) in
      let made : kept_new goal claim fresh ≡ kept_new goal claim None = ap (λ (id : Option (List ℕ)). result_with id [] []) (same_new_id claim) in
      λ i. if is_keep one.decision then same_kept claim i
      else (if not (is_component goal || is_provider_goal goal) then kept_planned goal claim one
      else (if is_update one.decision then changed i else made i))

-- ---- the entry

module _ (known : Known) (number : ℕ) (goal : Goal) (one : Decided) (there : goal_at known number ≡ Some goal)
    (decided : decided_goal known number ≡ Some one) where
  -- what is read of a decided goal
  decided_read : (read : Goal → Decided → Option Entry)
      → option_and_then (λ own. option_and_then (read own) (decided_goal known number)) (goal_at known number) ≡ read goal one
  decided_read read =
      ap (λ (o : Option Goal). option_and_then (λ own. option_and_then (read own) (decided_goal known number)) o) there
      ∙ ap (option_and_then (read goal)) decided

  decided_made : (make : Goal → Decided → Entry)
      → option_and_then (λ own. option_map (make own) (decided_goal known number)) (goal_at known number) ≡ Some (make goal one)
  decided_made make =
      ap (λ (o : Option Goal). option_and_then (λ own. option_map (make own) (decided_goal known number)) o) there
      ∙ ap (option_map (make goal)) decided

pub kept_is_made_again : KeptIsMadeAgain
kept_is_made_again known number goal one fresh there decided other recorded =
    decided_read known number goal one there decided (λ own its. option_map (goal_entry known own its) (recording_of known number own its))
    ∙ ap (option_map (goal_entry known goal one)) (recorded ∙ ap Some (same_result goal fresh other (claimed_row known.run one.claim) one))
    ∙ sym (decided_made known number goal one there decided
    (λ own its. goal_entry known own its (result_of_keep own (claimed_row known.run its.claim) its None)))
