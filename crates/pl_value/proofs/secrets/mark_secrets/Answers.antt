use Rattle.std.proofs.Common.{ap, ◌∙◌}
use Rattle.pl_value.specs.IsValue.{are_fields}
use Rattle.pl_value.proofs.Marked.{are_fields-marked}
use Rattle.pl_value.proofs.secrets.mark_secrets.Goals as goal

pub from_items-requires : goal.from_items-requires
from_items-requires c =
    let before = ap are_fields c.as_slice.ensures.same ∙ c.as_slice.ensures.sound in
    ap are_fields c.in-Ok.ensures ∙ are_fields-marked c.as_slice-2.result.now c.as_slice.result.now before
