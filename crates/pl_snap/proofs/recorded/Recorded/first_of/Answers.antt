use Rattle.std.proofs.Common.{◌≡◌, Some, None, option_and_then, position, slice_get, ap, sym, ◌∙◌}
use Rattle.pl_snap.specs.Calls.{is_goal}
use Rattle.pl_snap.proofs.ListLemmas.{find-position}
use Rattle.pl_snap.proofs.recorded.Recorded.first_of.Goals as goal

pub returns-in-None : goal.returns-in-None
returns-in-None c =
    let none : position (is_goal c.args.goal) c.args.self.now ≡ None = sym c.place_of.ensures ∙ c.in-None.is in
    sym (find-position (is_goal c.args.goal) c.args.self.now ∙ ap (option_and_then (slice_get c.args.self.now)) none)

pub returns-in-Some : goal.returns-in-Some
returns-in-Some c =
    let some : position (is_goal c.args.goal) c.args.self.now ≡ Some c.in-Some.place = sym c.place_of.ensures ∙ c.in-Some.is in
    c.get.ensures ∙ sym (find-position (is_goal c.args.goal) c.args.self.now ∙ ap (option_and_then (slice_get c.args.self.now)) some)
