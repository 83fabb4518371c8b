use Rattle.std.proofs.Common.{◌∙◌, ℕ, List, sym}
use Rattle.pl_columns.specs.Read.{known_by}
use Rattle.pl_model.specs.Due.{is_recorded_urn}
use Rattle.pl_ready.proofs.Flat.{all_flat}
use Rattle.pl_ready.proofs.goals.are_properties_recorded.Goals as goal

pub returns : goal.returns
returns c =
    c.are_pairs_recorded.ensures
    ∙ sym (all_flat (is_recorded_urn (known_by c.args.columns.now)) (λ (pair : List ℕ × List (List ℕ)). pair.1) c.args.pairs.now)
