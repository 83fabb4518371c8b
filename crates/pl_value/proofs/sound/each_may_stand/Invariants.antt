use Rattle.std.proofs.Common.{◌≡◌, true, take}
use Rattle.pl_value.specs.IsValue.{each_may_stand}
use Rattle.pl_value.proofs.sound.each_may_stand.Given as goal

-- those that were looked at spell no secret
abbrev pub invariant-loop-key : goal.invariant-loop-key
invariant-loop-key l = each_may_stand (take l.key-index l.fields) ≡ true
