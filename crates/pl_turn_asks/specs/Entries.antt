-- The entry of a goal without the outputs that were told of it, of which a registration is answered.
use Rattle.std.specs.Prelude.{◌≡◌, ℕ, false, Option, None, Some}
use Rattle.pl_entries.specs.Recorded.{kept_entry}
use Rattle.pl_model.specs.Claims.{claimed_row}
use Rattle.pl_model.specs.Entries.{entry_of, recorded_entry, recording_of, result_of_keep, told_outputs}
use Rattle.pl_model.specs.Known.{Known, decided_goal, goal_at}
use Rattle.pl_model.specs.declared.decided.Decided.{Decided}
use Rattle.pl_state.specs.Kinds.{is_provider_goal}
use Rattle.pl_state.specs.declared.goal.Goal.{Goal}

-- of which no outputs were told, it is the one that the state has
abbrev pub UntoldIsRecorded : Type 0
UntoldIsRecorded = (known : Known) (number : ℕ) → told_outputs known number ≡ None → entry_of known number ≡ recorded_entry known number

-- of a goal that was kept and is no provider, it is the one that its keep records, whatever number that carries
abbrev pub KeptIsMadeAgain : Type 0
KeptIsMadeAgain = (known : Known) (number : ℕ) (goal : Goal) (one : Decided) (fresh : Option ℕ)
    → goal_at known number ≡ Some goal → decided_goal known number ≡ Some one → is_provider_goal goal ≡ false
    → recording_of known number goal one ≡ Some (result_of_keep goal (claimed_row known.run one.claim) one fresh)
    → entry_of known number ≡ kept_entry known number None
