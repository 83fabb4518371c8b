use Rattle.std.proofs.Common.{sym, ◌∙◌}
use Rattle.pl_entries.proofs.provided.recorded_id.Goals as goal

pub provider_id-requires : goal.provider_id-requires
provider_id-requires c = c.requires c.args.goal (sym c.is_recorded.ensures ∙ c.if-is_recorded.true)
