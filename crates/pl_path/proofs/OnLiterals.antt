-- What an answer unfolds to compute this crate's definitions on literals.
use Rattle.std.specs.Prelude.{⊤}
use Rattle.pl_value.proofs.Levels.{depth-Null, depth-Flag, depth-Whole, depth-Text, depth-List, depth-Object, depth-Secret, depth-Unknown}
use Rattle.pl_path.proofs.Levels.{bare-Null, bare-Flag, bare-Whole, bare-Text, bare-List, bare-Object, bare-Secret, bare-Unknown, out-Null, out-Flag, out-Whole, out-Text, out-List, out-Object, out-Secret, out-Unknown, through-Null, through-Flag, through-Whole, through-Text, through-List, through-Object, through-Secret, through-Unknown}
use Rattle.pl_path.specs.Found.{value_at}
use Rattle.pl_path.specs.Grammar.{segments_of, bad_place, is_path}
use Rattle.pl_path.specs.Steps.{step, ended, reads_on}
use Rattle.pl_path.specs.Reset.{reset_at}

unfoldable pub path_on_literals : ⊤
unfolding step ended reads_on segments_of bad_place is_path value_at reset_at
path_on_literals = tt

-- and by what it rewrites values
pub ruleset value_equations = (bare-Null, bare-Flag, bare-Whole, bare-Text, bare-List, bare-Object, bare-Secret, bare-Unknown, out-Null, out-Flag, out-Whole, out-Text, out-List, out-Object, out-Secret, out-Unknown, through-Null, through-Flag, through-Whole, through-Text, through-List, through-Object, through-Secret, through-Unknown, depth-Null, depth-Flag, depth-Whole, depth-Text, depth-List, depth-Object, depth-Secret, depth-Unknown)
