use Rattle.std.proofs.lemmas.Bool.Decides.{same_from_decides}
use Rattle.pl_value.proofs.SameTells.{value_same-Decides}
use Rattle.pl_value.specs.Same.{value_same}
use Rattle.pl_toy.proofs.replying.same_if_there.Goals as goal

pub returns-in-Some-Some : goal.returns-in-Some-Some
returns-in-Some-Some c =
    let same = same_from_decides c.same_as.result (value_same c.in-Some-Some.old.now c.in-Some-Some.new.now) c.same_as.ensures (value_same-Decides c.in-Some-Some.old.now c.in-Some-Some.new.now) in
    rw (c.in-Some-Some.is-0, c.in-Some-Some.is-1) same
