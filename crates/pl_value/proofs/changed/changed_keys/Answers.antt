use Rattle.std.proofs.Common.{◌≡◌, ◌+◌, ◌<◌, length, sym, ◌∙◌, arith, Less, Greater, Equal}
use Rattle.std.proofs.lemmas.Bool.{true≢false}
use Rattle.pl_value.specs.Changed.{first_of}
use Rattle.pl_value.proofs.Merging.{step_before, step_after, step_changed, step_same}
use Rattle.pl_value.proofs.changed.changed_keys.Goals as goal
use Rattle.pl_value.proofs.changed.changed_keys.Goals.{then-not-same_as+in_ok-copy-in-Equal+in_ok-push-in-Equal, else-not-same_as, then-before-ne0, else-before-ne0+then-after-ne0}

pub loop-before-preserved-in-Less : goal.loop-before-preserved-in-Less
loop-before-preserved-in-Less c =
    let before = c.loop-before.before.now in
    let after = c.loop-before.after.now in
    let first : first_of before after ≡ Less = sym c.first_of.ensures ∙ c.in-Less.is in
    let some : 0 < length before + length after =
    elim c.if-before-ne0.branch [ then-before-ne0 w ↦ omega arith | else-before-ne0+then-after-ne0 w ↦ omega arith ] in
    rw (c.rest-before.ensures, c.in_ok-push-in-Less.ensures.added, c.in_ok-copy-in-Less.ensures)
    (step_before c.args.old.now c.args.new.now before after c.loop-before.keys c.index-before-0.result some first c.loop-before.invariant)

pub loop-before-preserved-in-Greater : goal.loop-before-preserved-in-Greater
loop-before-preserved-in-Greater c =
    let before = c.loop-before.before.now in
    let after = c.loop-before.after.now in
    let first : first_of before after ≡ Greater = sym c.first_of.ensures ∙ c.in-Greater.is in
    rw (c.rest-after.ensures, c.in_ok-push-in-Greater.ensures.added, c.in_ok-copy-in-Greater.ensures)
    (step_after c.args.old.now c.args.new.now before after c.loop-before.keys c.index-after-0.result first c.loop-before.invariant)

pub loop-before-preserved : goal.loop-before-preserved
loop-before-preserved c =
    let before = c.loop-before.before.now in
    let after = c.loop-before.after.now in
    let first : first_of before after ≡ Equal = sym c.first_of.ensures ∙ c.in-Equal.is in
    elim c.if-not-same_as.branch [
      | then-not-same_as+in_ok-copy-in-Equal+in_ok-push-in-Equal w ↦
          rw (c.rest-before-in-Equal.ensures, c.rest-after-in-Equal.ensures, w.keys-is, w.in_ok-push-in-Equal.ensures.added, w.in_ok-copy-in-Equal.ensures)
          (step_changed c.args.old.now c.args.new.now before after c.loop-before.keys c.index-before-0-in-Equal.result c.index-after-0-in-Equal.result
          w.index-before-0-then-not-same_as.result first (λ e. true≢false (sym (c.same_as.ensures.1 e) ∙ w.if-not-same_as.true)) c.loop-before.invariant)
      | else-not-same_as w ↦
          rw (c.rest-before-in-Equal.ensures, c.rest-after-in-Equal.ensures, w.keys-is)
          (step_same c.args.old.now c.args.new.now before after c.loop-before.keys c.index-before-0-in-Equal.result c.index-after-0-in-Equal.result
          first (c.same_as.ensures.0 w.if-not-same_as.false) c.loop-before.invariant)
    ]
