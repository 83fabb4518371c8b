use Rattle.pl_value.proofs.Levels.{has_unknown-List, has_unknown-Object}
use Rattle.pl_value.proofs.inside.+unknown.Goals as goal

pub has_unknown-returns-in-List : goal.has_unknown-returns-in-List
has_unknown-returns-in-List t c = cc (has_unknown-List c.in-List.values)

pub has_unknown-returns-in-Object : goal.has_unknown-returns-in-Object
has_unknown-returns-in-Object t c = cc (has_unknown-Object c.in-Object.fields)
