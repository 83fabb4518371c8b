use Rattle.pl_desk.proofs.Endings.{item_found, ends_with}
use Rattle.pl_desk.proofs.seats.close.Goals as goal

pub unreachable-requires : goal.unreachable-requires
unreachable-requires g c = let s = c.args.seat in
    let k = item_found g.J.Chronicle.origin g.J.Chronicle.lines g.J.Chronicle.number_of s.hold.me s.live c.requires.turn c.requires.first c.requires.all _ _ _ c.close_with-closed.ensures.values.2 _ c.take-found.ensures.value in c.in_default.not-Some k.0 k.1

pub returns-clause-origin : goal.returns-clause-origin
returns-clause-origin g c = let s = c.args.seat in
    (ends_with g.J.Chronicle.origin g.J.Chronicle.lines g.J.Chronicle.number_of s.hold.me s.live c.requires.turn c.requires.first c.requires.all _ _ _ c.close_with-closed.ensures.values.2 _ c.take-found.ensures.value c.in-Some.item c.in-Some.is).origin_is

pub returns-clause-numbers : goal.returns-clause-numbers
returns-clause-numbers g c = let s = c.args.seat in
    (ends_with g.J.Chronicle.origin g.J.Chronicle.lines g.J.Chronicle.number_of s.hold.me s.live c.requires.turn c.requires.first c.requires.all _ _ _ c.close_with-closed.ensures.values.2 _ c.take-found.ensures.value c.in-Some.item c.in-Some.is).numbers

pub returns-clause-mine : goal.returns-clause-mine
returns-clause-mine g c = let s = c.args.seat in
    (ends_with g.J.Chronicle.origin g.J.Chronicle.lines g.J.Chronicle.number_of s.hold.me s.live c.requires.turn c.requires.first c.requires.all _ _ _ c.close_with-closed.ensures.values.2 _ c.take-found.ensures.value c.in-Some.item c.in-Some.is).mine

pub returns-clause-others : goal.returns-clause-others
returns-clause-others g c = let s = c.args.seat in
    (ends_with g.J.Chronicle.origin g.J.Chronicle.lines g.J.Chronicle.number_of s.hold.me s.live c.requires.turn c.requires.first c.requires.all _ _ _ c.close_with-closed.ensures.values.2 _ c.take-found.ensures.value c.in-Some.item c.in-Some.is).others

pub returns-clause-seen : goal.returns-clause-seen
returns-clause-seen g c = let s = c.args.seat in
    (ends_with g.J.Chronicle.origin g.J.Chronicle.lines g.J.Chronicle.number_of s.hold.me s.live c.requires.turn c.requires.first c.requires.all _ _ _ c.close_with-closed.ensures.values.2 _ c.take-found.ensures.value c.in-Some.item c.in-Some.is).seen
