use Rattle.std.proofs.Common.{◌≡◌, ℕ, ◌<◌, true, map, string_bytes}
use Rattle.pl_cli.specs.Place.{may_stand}
use Rattle.pl_cli.proofs.read.misplaced_word.Given as goal

-- each word that was passed may stand
abbrev pub invariant-loop-place : goal.invariant-loop-place
invariant-loop-place l = (k : ℕ) → k < l.place → may_stand l.command (map string_bytes l.words) k ≡ true
