use Rattle.std.proofs.Common.{◌≡◌, drop}
use Rattle.pl_path.specs.Found.{found_at, found_in}
use Rattle.pl_path.proofs.found.get.Given as goal

-- what is sought stands at the segments that are left
abbrev pub invariant-loop-segment : goal.invariant-loop-segment
invariant-loop-segment l = found_in (drop l.segment-index l.rest) l.found ≡ found_at l.path l.fn.fields
