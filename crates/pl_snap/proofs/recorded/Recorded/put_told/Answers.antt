use Rattle.std.proofs.Common.{◌≡◌, None, Some, ap, refl, sym, ◌∙◌}
use Rattle.std.specs.Prelude.{position}
use Rattle.std.proofs.lemmas.Option.{get_or_from_slice_get}
use Rattle.pl_value.specs.Secrets.{marked}
use Rattle.pl_snap.specs.Calls.{is_goal, with_put, with_told}
use Rattle.pl_snap.specs.Lists.{changed_first}
use Rattle.pl_snap.specs.declared.fresh.Fresh.{Fresh}
use Rattle.pl_snap.proofs.ListLemmas.{changed-none, changed_place, find-none, place, position-changed, position-place}
use Rattle.pl_snap.proofs.recorded.Recorded.put_told.Goals as goal

pub returns-in_default-clause-put : goal.returns-in_default-clause-put
returns-in_default-clause-put c =
    let goal = c.args.goal in
    let fresh = c.args.self.now in
    let none : place (is_goal goal) fresh ≡ None = sym (position-place (is_goal goal) fresh) ∙ sym c.in_default.ensures in
    sym (changed-none (is_goal goal) (with_told c.args.stamp c.args.outputs) fresh (find-none (is_goal goal) fresh none))

pub invariant_of-self : goal.invariant_of-self
invariant_of-self c =
    λ goal.
    c.self.invariant goal
    ∙ sym (position-changed (is_goal goal) (with_put c.args.stamp c.in-Ok.outputs) (λ one. refl) c.self.inside.entries.items c.in-Some.place)
    ∙ ap (position (is_goal goal)) (sym c.put_at.ensures)

pub returns-in-Ok-clause-put : goal.returns-in-Ok-clause-put
returns-in-Ok-clause-put c =
    let goal = c.args.goal in
    let fresh = c.self.inside.entries.items in
    let at : place (is_goal goal) fresh ≡ Some c.in-Some.place = sym (position-place (is_goal goal) fresh) ∙ ap (position (is_goal goal)) c.self.view_is ∙ sym c.in-Some.ensures in
    c.put_at.ensures
    ∙ changed_place (is_goal goal) (with_put c.args.stamp c.in-Ok.outputs) (with_told c.args.stamp c.args.outputs) fresh c.in-Some.place at
    (λ one here.
    let read : c.index.result.now ≡ one = c.index.ensures ∙ get_or_from_slice_get fresh c.in-Some.place one c.index.result.now here in
    ap (λ outputs. with_put c.args.stamp outputs one) (c.in-Ok.ensures.marked ∙ ap (λ (one : Fresh). marked one.entry.additional_secret_outputs c.args.outputs) read))
    ∙ ap (changed_first (is_goal goal) (with_told c.args.stamp c.args.outputs)) c.self.view_is
