use Rattle.std.proofs.Common.{rules, ◌*◌, ap, sym, ◌∙◌, subst, arith, false}
use Rattle.std.proofs.lemmas.Option.{same_Some}
use Rattle.pl_desk.specs.Posed.{number_in, origin_in, seen_in, facing}
use Rattle.pl_desk.specs.Rule.{Grows}
use Rattle.pl_desk.specs.declared.board.Place.{Place}
use Rattle.pl_desk.proofs.Tokens.{seated, holding}
use Rattle.pl_desk.proofs.Steps.{gives_ok}
use Rattle.pl_desk.proofs.calls.give_back.Goals as goal

pub swap-found-requires : goal.swap-found-requires
swap-found-requires g c = let s = c.args.seat.now in let k = holding s.hold.me _ c.args.item s.live c.requires.turn c.exchange-empty.ensures.3 in let origin = g.J.Chronicle.origin in let lines = g.J.Chronicle.lines in let f = g.J.Chronicle.number_of in (
  search rules,
  search rules,
  gives_ok origin lines f _ _ _ _ k.0 c.args.item k.3 k.2
      (same_Some _ _ (sym (ap (origin_in origin) k.1) ∙ c.requires.origin))
      (subst (λ (p : Place _). Grows f (number_in p) (seen_in lines p) (lines c.args.item)) k.1 c.requires.added)
      c.requires.few (ap (λ n. 2 * n) c.length-length.ensures),
)

pub invariant_of-seat : goal.invariant_of-seat
invariant_of-seat g c = let s = c.args.seat.now in let k = holding s.hold.me _ c.args.item s.live c.requires.turn c.exchange-empty.ensures.3 in record {
  live = seated _ (record k.0 { last = c.args.item; turn = false }) (c.swap-found.ensures.2 k.0 c.args.item k.3).1;
}

pub returns-clause-place : goal.returns-clause-place
returns-clause-place g c = let s = c.args.seat.now in let k = holding s.hold.me _ c.args.item s.live c.requires.turn c.exchange-empty.ensures.3 in
    ap (λ m. m.0) (c.swap-found.ensures.2 k.0 c.args.item k.3).1 ∙ ap (facing c.args.item false) (sym k.1)

pub prove-unreachable-requires : goal.prove-unreachable-requires
prove-unreachable-requires g c = let s = c.args.seat.now in let k = holding s.hold.me _ c.args.item s.live c.requires.turn c.exchange-empty.ensures.3 in
    let found = (c.swap-found.ensures.2 k.0 c.args.item k.3).0 in c.if-prove.true (omega arith)
