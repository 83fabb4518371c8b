use Rattle.std.proofs.Common.{◌≡◌, ◌≤◌, ℕ, Bool, List, false, true, sym, ap, ◌∙◌, arith}
use Rattle.std.proofs.lemmas.Result.{err_from_is_err_and}
use Rattle.pl_toy.specs.Table.{is_long, numbered}
use Rattle.pl_toy.specs.declared.create.Place.{Place}
use Rattle.pl_toy.proofs.Answering.{OnFailed-over}
use Rattle.pl_toy.proofs.Numbering.{place-long, place-full, created-long, created-full, found-under, put-under, kept-under}
use Rattle.pl_toy.proofs.create.place_new.Goals as goal

pub returns-then-is_long-clause-by_number : goal.returns-then-is_long-clause-by_number
returns-then-is_long-clause-by_number g c =
    let long : is_long (numbered c.args.name.now c.loop-number.number) ≡ true =
    ap is_long (sym c.in_ok-id.ensures) ∙ ap is_long (sym c.as_str.ensures) ∙ sym c.is_long.ensures ∙ c.if-is_long.true
    in
    place-long (g.H.Shelf.things c.args.shelf.now) c.args.name.now c.loop-number.number (omega arith) (omega arith) long c.loop-number.invariant.taken

pub returns-then-is_long-clause-created : goal.returns-then-is_long-clause-created
returns-then-is_long-clause-created g c =
    let long : is_long (numbered c.args.name.now c.loop-number.number) ≡ true =
    ap is_long (sym c.in_ok-id.ensures) ∙ ap is_long (sym c.as_str.ensures) ∙ sym c.is_long.ensures ∙ c.if-is_long.true
    in
    created-long (g.H.Shelf.things c.args.shelf.now) (g.H.Shelf.things c.loop-number.shelf) c.args.name.now c.args.bytes.now
    (place-long (g.H.Shelf.things c.args.shelf.now) c.args.name.now c.loop-number.number (omega arith) (omega arith) long c.loop-number.invariant.taken)
    c.loop-number.invariant.things_stay

pub returns-in_err-put_new-clause-failed_kept_or_created : goal.returns-in_err-put_new-clause-failed_kept_or_created
returns-in_err-put_new-clause-failed_kept_or_created g c =
    let p = err_from_is_err_and c.from_residual-in_err-put_new.result c.from_residual-in_err-put_new.ensures.1 in
    let short : is_long c.in_ok-id.id ≡ false = ap is_long (sym c.as_str.ensures) ∙ sym c.is_long.ensures ∙ c.if-is_long.false in
    let kept = rw c.as_str-in-loop-number.ensures at c.in_err-put_new.ensures.failed_kept_or_added in
    rw (p.1, p.2) (OnFailed-over Bool Place c.in_err-put_new.field-0.0
    (kept-under (g.H.Shelf.things c.args.shelf.now) (g.H.Shelf.things c.loop-number.shelf) (g.H.Shelf.things c.put_new.new.self) c.args.name.now c.args.bytes.now c.in_ok-id.id c.loop-number.number
    c.loop-number.invariant.things_stay c.in_ok-id.ensures (omega arith) (omega arith) short c.loop-number.invariant.taken) kept)

pub returns-then-branch-clause-by_number : goal.returns-then-branch-clause-by_number
returns-then-branch-clause-by_number g c =
    let short : is_long c.in_ok-id.id ≡ false = ap is_long (sym c.as_str.ensures) ∙ sym c.is_long.ensures ∙ c.if-is_long.false in
    let free = rw (c.as_str-in-loop-number.ensures, c.if-branch.true) at c.in_ok-put_new.ensures.is_new in
    found-under (g.H.Shelf.things c.args.shelf.now) (g.H.Shelf.things c.loop-number.shelf) c.args.name.now c.in_ok-id.id c.loop-number.number
    c.loop-number.invariant.things_stay c.in_ok-id.ensures (omega arith) (omega arith) short free c.loop-number.invariant.taken

pub returns-then-branch-clause-created : goal.returns-then-branch-clause-created
returns-then-branch-clause-created g c =
    let short : is_long c.in_ok-id.id ≡ false = ap is_long (sym c.as_str.ensures) ∙ sym c.is_long.ensures ∙ c.if-is_long.false in
    let free = rw (c.as_str-in-loop-number.ensures, c.if-branch.true) at c.in_ok-put_new.ensures.is_new in
    let added = rw c.as_str-in-loop-number.ensures at c.in_ok-put_new.ensures.added in
    put-under (g.H.Shelf.things c.args.shelf.now) (g.H.Shelf.things c.loop-number.shelf) (g.H.Shelf.things c.put_new.new.self) c.args.name.now c.args.bytes.now c.in_ok-id.id
    c.loop-number.invariant.things_stay
    (found-under (g.H.Shelf.things c.args.shelf.now) (g.H.Shelf.things c.loop-number.shelf) c.args.name.now c.in_ok-id.id c.loop-number.number
    c.loop-number.invariant.things_stay c.in_ok-id.ensures (omega arith) (omega arith) short free c.loop-number.invariant.taken) free added

pub returns-clause-by_number : goal.returns-clause-by_number
returns-clause-by_number g c =
    place-full (g.H.Shelf.things c.args.shelf.now) c.args.name.now (λ j from below. c.loop-number.invariant.taken j from (omega arith))

pub returns-clause-created : goal.returns-clause-created
returns-clause-created g c =
    created-full (g.H.Shelf.things c.args.shelf.now) (g.H.Shelf.things c.loop-number.shelf) c.args.name.now c.args.bytes.now
    (place-full (g.H.Shelf.things c.args.shelf.now) c.args.name.now (λ j from below. c.loop-number.invariant.taken j from (omega arith)))
    c.loop-number.invariant.things_stay
