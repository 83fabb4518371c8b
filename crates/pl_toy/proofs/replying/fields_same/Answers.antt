use Rattle.std.proofs.Common.{◌∙◌, ℕ, List, ap}
use Rattle.std.proofs.lemmas.Bool.Decides.{same_from_decides}
use Rattle.pl_value.proofs.SameTells.{fields_same-Decides}
use Rattle.pl_value.specs.Same.{fields_same}
use Rattle.pl_value.specs.declared.value.Value.{Value}
use Rattle.pl_toy.proofs.replying.fields_same.Goals as goal

pub returns : goal.returns
returns c =
    same_from_decides c.are_same.result (fields_same c.as_slice.result.now c.as_slice-2.result.now) c.are_same.ensures
    (fields_same-Decides c.as_slice.result.now c.as_slice-2.result.now)
    ∙ ap (λ (fields : List (List ℕ × Value)). fields_same fields c.as_slice-2.result.now) c.as_slice.ensures.same
    ∙ ap (fields_same c.args.old.now) c.as_slice-2.ensures.same
