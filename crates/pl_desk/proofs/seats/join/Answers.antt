use Rattle.std.proofs.Common.{rules}
use Rattle.pl_desk.proofs.Joined.{join_allowed, learn_allowed, took_in}
use Rattle.pl_desk.proofs.seats.join.Goals as goal

pub join_seat-requires : goal.join_seat-requires
join_seat-requires g c = let s = c.args.seat.now in let o = c.args.other in let k = join_allowed g.J.Chronicle.origin g.J.Chronicle.lines g.J.Chronicle.number_of s.hold.me o.hold.me s.live o.live c.requires.turn.0 c.requires.turn.1 _ _ in
    (search rules, search rules, k.0, search rules, k.1)

pub load-requires : goal.load-requires
load-requires g c = let s = c.args.seat.now in let o = c.args.other in
    (search rules, search rules, learn_allowed g.J.Chronicle.origin g.J.Chronicle.lines g.J.Chronicle.number_of s.hold.me o.hold.me _ s.live o.live c.requires.turn.0 c.requires.turn.1 c.join_seat.ensures.2 _ _)

pub invariant_of-seat : goal.invariant_of-seat
invariant_of-seat g c = let s = c.args.seat.now in let o = c.args.other in let k = took_in g.J.Chronicle.origin g.J.Chronicle.lines g.J.Chronicle.number_of s.hold.me o.hold.me _ _ s.live o.live c.requires.turn.0 c.requires.turn.1 c.join_seat.ensures.2 c.load.ensures.2 in record { live = k.seated }

pub returns-clause-same : goal.returns-clause-same
returns-clause-same g c = let s = c.args.seat.now in let o = c.args.other in let k = took_in g.J.Chronicle.origin g.J.Chronicle.lines g.J.Chronicle.number_of s.hold.me o.hold.me _ _ s.live o.live c.requires.turn.0 c.requires.turn.1 c.join_seat.ensures.2 c.load.ensures.2 in (search rules, k.took.same.0, k.took.same.1, k.turn, k.took.origin_same)

pub returns-clause-seen : goal.returns-clause-seen
returns-clause-seen g c = let s = c.args.seat.now in let o = c.args.other in let k = took_in g.J.Chronicle.origin g.J.Chronicle.lines g.J.Chronicle.number_of s.hold.me o.hold.me _ _ s.live o.live c.requires.turn.0 c.requires.turn.1 c.join_seat.ensures.2 c.load.ensures.2 in k.took.seen

pub returns-clause-begins : goal.returns-clause-begins
returns-clause-begins g c = let s = c.args.seat.now in let o = c.args.other in let k = took_in g.J.Chronicle.origin g.J.Chronicle.lines g.J.Chronicle.number_of s.hold.me o.hold.me _ _ s.live o.live c.requires.turn.0 c.requires.turn.1 c.join_seat.ensures.2 c.load.ensures.2 in k.took.begins

pub returns-clause-mine : goal.returns-clause-mine
returns-clause-mine g c = let s = c.args.seat.now in let o = c.args.other in let k = took_in g.J.Chronicle.origin g.J.Chronicle.lines g.J.Chronicle.number_of s.hold.me o.hold.me _ _ s.live o.live c.requires.turn.0 c.requires.turn.1 c.join_seat.ensures.2 c.load.ensures.2 in k.took.mine

pub returns-clause-loads : goal.returns-clause-loads
returns-clause-loads g c = let s = c.args.seat.now in let o = c.args.other in let k = took_in g.J.Chronicle.origin g.J.Chronicle.lines g.J.Chronicle.number_of s.hold.me o.hold.me _ _ s.live o.live c.requires.turn.0 c.requires.turn.1 c.join_seat.ensures.2 c.load.ensures.2 in k.took.loads

pub returns-clause-gathered : goal.returns-clause-gathered
returns-clause-gathered g c = let s = c.args.seat.now in let o = c.args.other in let k = took_in g.J.Chronicle.origin g.J.Chronicle.lines g.J.Chronicle.number_of s.hold.me o.hold.me _ _ s.live o.live c.requires.turn.0 c.requires.turn.1 c.join_seat.ensures.2 c.load.ensures.2 in k.took.gathered
