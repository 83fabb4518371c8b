use Rattle.std.proofs.Common.{◌≡◌, ◌∙◌, List, None, Some, option_and_then, sym, ap}
use Rattle.std.specs.Bool.{nat_eq}
use Rattle.std.specs.HashMap.{get}
use Rattle.std.specs.List.{slice_get}
use Rattle.pl_model.specs.declared.heard.Heard.{Heard}
use Rattle.pl_told.proofs.Seen.{asked_seen}
use Rattle.pl_told.proofs.stored.Stored.asked.Goals as goal

pub returns-in-None : goal.returns-in-None
returns-in-None c =
    let none : get nat_eq c.self.inside.places c.args.n ≡ None = sym c.place_in.ensures ∙ c.in-None.is in
    sym (asked_seen c.self.inside c.self.invariant c.args.self.now c.self.view_is c.args.n
    ∙ ap (option_and_then (slice_get c.self.inside.heard.items)) none)

pub returns-in-Some : goal.returns-in-Some
returns-in-Some c =
    let some : get nat_eq c.self.inside.places c.args.n ≡ Some c.in-Some.place = sym c.place_in.ensures ∙ c.in-Some.is in
    c.heard_at.ensures ∙ ap (λ (items : List Heard). slice_get items c.in-Some.place) c.as_slice.ensures.value
    ∙ sym (asked_seen c.self.inside c.self.invariant c.args.self.now c.self.view_is c.args.n
    ∙ ap (option_and_then (slice_get c.self.inside.heard.items)) some)
