use Rattle.std.proofs.Common.{rules, false}
use Rattle.pl_desk.proofs.Tokens.{posed}
use Rattle.pl_desk.proofs.Steps.{looks_ok}
use Rattle.pl_desk.proofs.seats.look.Goals as goal

pub load-requires : goal.load-requires
load-requires g c = let s = c.args.seat.now in let k = posed s.hold.me s.live false c.requires.turn in
    (search rules, search rules, looks_ok g.J.Chronicle.origin g.J.Chronicle.lines g.J.Chronicle.number_of _ _ _ k.0 k.1 k.2)
