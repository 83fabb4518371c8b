use Rattle.std.proofs.Common.{◌≡◌, ◌∙◌, ℕ, List, Option, None, Some, sym, ap}
use Rattle.std.specs.List.{find}
use Rattle.std.specs.Option.{option_copied}
use Rattle.pl_lemmas.specs.Words.{option_list}
use Rattle.pl_state.specs.References.{property_urns}
use Rattle.pl_requests.specs.Reading.{is_unknown}
use Rattle.pl_requests.proofs.FirstUnknown.{among_dependencies, among_properties, as_deleter}
use Rattle.pl_requests.proofs.unknown.further_unknown.Goals as goal

pub returns-in-Some : goal.returns-in-Some
returns-in-Some c =
    sym (among_dependencies (is_unknown c.args.requests.now.goals) c.args.goal.now c.in-Some.urn.now
    (ap (find (is_unknown c.args.requests.now.goals)) (sym c.as_slice.ensures) ∙ sym c.first_unknown.ensures ∙ ap option_copied c.in-Some.is))

pub returns-in-Some-unknown_property : goal.returns-in-Some-unknown_property
returns-in-Some-unknown_property c =
    let none : find (is_unknown c.args.requests.now.goals) c.args.goal.now.dependencies ≡ None =
    ap (find (is_unknown c.args.requests.now.goals)) (sym c.as_slice.ensures) ∙ sym c.first_unknown.ensures ∙ ap option_copied c.in_default.is in
    let found : find (is_unknown c.args.requests.now.goals) (property_urns c.args.goal.now.property_dependencies) ≡ Some c.in-Some-unknown_property.urn.now =
    ap (λ (pairs : List (List ℕ × List (List ℕ))). find (is_unknown c.args.requests.now.goals) (property_urns pairs)) (sym c.as_slice-2.ensures)
    ∙ sym c.unknown_property.ensures ∙ ap option_copied c.in-Some-unknown_property.is in
    sym (among_properties (is_unknown c.args.requests.now.goals) c.args.goal.now c.in-Some-unknown_property.urn.now none found)

pub returns : goal.returns
returns c =
    let none : find (is_unknown c.args.requests.now.goals) c.args.goal.now.dependencies ≡ None =
    ap (find (is_unknown c.args.requests.now.goals)) (sym c.as_slice.ensures) ∙ sym c.first_unknown.ensures ∙ ap option_copied c.in_default.is in
    let empty : find (is_unknown c.args.requests.now.goals) (property_urns c.args.goal.now.property_dependencies) ≡ None =
    ap (λ (pairs : List (List ℕ × List (List ℕ))). find (is_unknown c.args.requests.now.goals) (property_urns pairs)) (sym c.as_slice-2.ensures)
    ∙ sym c.unknown_property.ensures ∙ ap option_copied c.in_default-unknown_property.is in
    c.unknown_urn.ensures
    ∙ ap (λ (urn : Option (List ℕ)). find (is_unknown c.args.requests.now.goals) (option_list urn)) c.as_ref.ensures.value
    ∙ sym (as_deleter (is_unknown c.args.requests.now.goals) c.args.goal.now none empty)
