use Rattle.std.proofs.Common.{◌∙◌}
use Rattle.pl_show.proofs.state_lines.sound_line.Goals as goal

pub returns : goal.returns
returns c = rw (← c.len-resources.ensures, ← c.len-pending.ensures) (c.from_string.ensures ∙ c.in_ok-text.ensures.ok)
