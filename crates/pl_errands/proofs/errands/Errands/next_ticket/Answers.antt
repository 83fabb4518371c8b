use Rattle.std.proofs.Common.{◌∙◌, sym}
use Rattle.pl_errands.proofs.Seen.{next_seen}
use Rattle.pl_errands.proofs.errands.Errands.next_ticket.Goals as goal

pub returns : goal.returns
returns c =
    c.len.ensures ∙ c.self.inside.rows.ok.0
    ∙ sym (next_seen c.self.inside c.self.invariant c.args.self.now c.self.view_is)
