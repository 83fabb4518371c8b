use Rattle.std.proofs.Common.{◌≡◌, [], take, drop}
use Rattle.pl_program_file.specs.Names.{may_all_follow}
use Rattle.pl_program_file.proofs.reading.may_all_follow.Given as goal

-- the rest decides, behind those that were looked at
abbrev pub invariant-loop-place : goal.invariant-loop-place
invariant-loop-place l = may_all_follow [] l.resources ≡ may_all_follow (take l.place l.resources) (drop l.place l.resources)
