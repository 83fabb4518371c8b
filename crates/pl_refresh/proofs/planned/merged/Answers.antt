use Rattle.std.proofs.Common.{◌≡◌, ◌+◌, ◌<◌, length, sym, ◌∙◌, arith, Less, Greater, Equal}
use Rattle.pl_value.specs.Changed.{first_of}
use Rattle.pl_refresh.proofs.Over.{begins, ends, step_less, step_greater, step_equal}
use Rattle.pl_refresh.proofs.planned.merged.Goals as goal
use Rattle.pl_refresh.proofs.planned.merged.Goals.{then-before-ne0, else-before-ne0+then-over-ne0}

pub loop-before-init : goal.loop-before-init
loop-before-init c = rw c.new-made.ensures.items (begins c.args.old.now c.args.checked.now c.requires)

pub loop-before-preserved-in-Less : goal.loop-before-preserved-in-Less
loop-before-preserved-in-Less c =
    let before = c.loop-before.before.now in
    let over = c.loop-before.over.now in
    let first : first_of before over ≡ Less = sym c.least_of.ensures ∙ c.in-Less.is in
    let some : 0 < length before + length over =
    elim c.if-before-ne0.branch [ then-before-ne0 w ↦ omega arith | else-before-ne0+then-over-ne0 w ↦ omega arith ] in
    rw (c.rest-before.ensures, c.in_ok-push-in-Less.ensures.items)
    (step_less c.args.old.now c.args.checked.now before over c.loop-before.made.items c.in_ok-copy_first-in-Less.field-0 some first c.in_ok-copy_first-in-Less.ensures c.loop-before.invariant)

pub loop-before-preserved-in-Greater : goal.loop-before-preserved-in-Greater
loop-before-preserved-in-Greater c =
    let before = c.loop-before.before.now in
    let over = c.loop-before.over.now in
    let first : first_of before over ≡ Greater = sym c.least_of.ensures ∙ c.in-Greater.is in
    rw (c.rest-over.ensures, c.in_ok-push-in-Greater.ensures.items)
    (step_greater c.args.old.now c.args.checked.now before over c.loop-before.made.items c.in_ok-copy_first-in-Greater.field-0 first c.in_ok-copy_first-in-Greater.ensures c.loop-before.invariant)

pub loop-before-preserved : goal.loop-before-preserved
loop-before-preserved c =
    let before = c.loop-before.before.now in
    let over = c.loop-before.over.now in
    let first : first_of before over ≡ Equal = sym c.least_of.ensures ∙ c.in-Equal.is in
    rw (c.rest-before-in-Equal.ensures, c.rest-over-in-Equal.ensures, c.in_ok-push-in-Equal.ensures.items)
    (step_equal c.args.old.now c.args.checked.now before over c.loop-before.made.items c.in_ok-copy_first-in-Equal.field-0 first c.in_ok-copy_first-in-Equal.ensures c.loop-before.invariant)
