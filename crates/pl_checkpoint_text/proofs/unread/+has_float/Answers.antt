use Rattle.std.proofs.Common.{◌≡◌, true, false, [], ◌∷◌, ◌++◌, sym, ap, ◌∙◌, append_assoc}
use Rattle.serde_json.proofs.Views.{Entry}
use Rattle.serde_json.specs.View.{view, members_view}
use Rattle.serde_json.specs.Written.{has_float, members_have_float}
use Rattle.pl_checkpoint_text.proofs.Reading.{items_have_float-at, items_have_float-take, members_have_float-from, members_have_float-push}
use Rattle.pl_checkpoint_text.proofs.unread.+has_float.Goals as goal

pub any_has_float-returns-then-has_float : goal.any_has_float-returns-then-has_float
any_has_float-returns-then-has_float t c =
    let has : has_float (view c.item-item.result) ≡ true = sym c.has_float.ensures ∙ c.if-has_float.true in
    sym (items_have_float-at c.args.items.now c.loop-item.item-index c.item-item.result c.loop-item-test.true (ap (λ v. has_float (view v)) (sym c.item-item.is) ∙ has))

pub any_has_float-loop-item-preserved : goal.any_has_float-loop-item-preserved
any_has_float-loop-item-preserved t c =
    let has : has_float (view c.item-item.result) ≡ false = sym c.has_float.ensures ∙ c.if-has_float.false in
    items_have_float-take c.args.items.now c.loop-item.item-index c.item-item.result c.loop-item-test.true c.loop-item.invariant
    (ap (λ v. has_float (view v)) (sym c.item-item.is) ∙ has)

pub have_float-returns-then-has_float : goal.have_float-returns-then-has_float
have_float-returns-then-has_float t c =
    let l = c.loop-key in
    let done = l.invariant.0 in
    let e : Entry = (c.in-Some.key.now, c.in-Some.member.now) in
    let left = c.next.new.self in
    let all : c.args.members.now.entries ≡ done ++ e ∷ left = l.invariant.1 ∙ ap (λ es. done ++ es) c.in-Some.ensures.steps in
    sym (ap (λ es. members_have_float (members_view es)) all ∙ members_have_float-from done e left (sym c.has_float.ensures ∙ c.if-has_float.true))

pub have_float-loop-key-preserved : goal.have_float-loop-key-preserved
have_float-loop-key-preserved t c =
    let l = c.loop-key in
    let done = l.invariant.0 in
    let e : Entry = (c.in-Some.key.now, c.in-Some.member.now) in
    let left = c.next.new.self in
    let all : c.args.members.now.entries ≡ done ++ e ∷ left = l.invariant.1 ∙ ap (λ es. done ++ es) c.in-Some.ensures.steps in (
      done ++ e ∷ [],
      all ∙ sym (append_assoc done (e ∷ []) left),
      members_have_float-push done e l.invariant.2 (sym c.has_float.ensures ∙ c.if-has_float.false),
    )
