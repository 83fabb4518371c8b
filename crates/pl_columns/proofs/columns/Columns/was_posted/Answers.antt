use Rattle.std.proofs.Common.{◌∙◌, sym}
use Rattle.pl_columns.proofs.Read.{posted_read}
use Rattle.pl_columns.proofs.columns.Columns.was_posted.Goals as goal

pub returns : goal.returns
returns c = c.was_posted.ensures ∙ sym (posted_read c.args.self.now c.args.n)
