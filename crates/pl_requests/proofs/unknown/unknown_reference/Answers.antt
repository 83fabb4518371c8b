use Rattle.std.proofs.Common.{◌≡◌, ◌∙◌, ℕ, List, Option, None, Some, refl, sym, ap}
use Rattle.std.specs.List.{find}
use Rattle.std.specs.Option.{option_copied}
use Rattle.pl_lemmas.specs.Words.{option_list}
use Rattle.pl_options.specs.GoalOf.{given}
use Rattle.pl_state.specs.References.{further_urns}
use Rattle.pl_requests.specs.Ids.{known_over}
use Rattle.pl_requests.specs.Reading.{is_unknown, is_unmet_text}
use Rattle.pl_requests.proofs.FirstUnknown.{unknown_by}
use Rattle.pl_requests.proofs.unknown.unknown_reference.Goals as goal

pub returns-in-Some-2 : goal.returns-in-Some-2
returns-in-Some-2 c run known tells =
    let parent : find (is_unknown c.args.requests.now.goals) (option_list c.args.goal.now.parent) ≡ None =
    ap (λ (urn : Option (List ℕ)). find (is_unknown c.args.requests.now.goals) (option_list urn)) (sym c.as_ref.ensures.value)
    ∙ sym c.unknown_urn.ensures ∙ ap option_copied c.in_default.is in
    let provider : find (is_unmet_text c.args.requests.now.goals c.args.ids.now) (option_list (given c.args.told.now.provider)) ≡ Some c.in-Some-2.text =
    ap (λ (text : Option (List ℕ)). find (is_unmet_text c.args.requests.now.goals c.args.ids.now) (option_list text)) (sym c.given.ensures)
    ∙ sym c.in_ok-text.ensures ∙ c.in-Some-2.is in
    unknown_by c.args.ids.now (known_over run c.args.requests.now.goals known) tells c.args.told.now c.args.goal.now None (Some c.in-Some-2.text)
    (find (is_unknown c.args.requests.now.goals) (further_urns c.args.goal.now)) parent provider refl

pub returns-in-None : goal.returns-in-None
returns-in-None c run known tells =
    let parent : find (is_unknown c.args.requests.now.goals) (option_list c.args.goal.now.parent) ≡ None =
    ap (λ (urn : Option (List ℕ)). find (is_unknown c.args.requests.now.goals) (option_list urn)) (sym c.as_ref.ensures.value)
    ∙ sym c.unknown_urn.ensures ∙ ap option_copied c.in_default.is in
    let provider : find (is_unmet_text c.args.requests.now.goals c.args.ids.now) (option_list (given c.args.told.now.provider)) ≡ None =
    ap (λ (text : Option (List ℕ)). find (is_unmet_text c.args.requests.now.goals c.args.ids.now) (option_list text)) (sym c.given.ensures)
    ∙ sym c.in_ok-text.ensures ∙ c.in_default-2.is in
    unknown_by c.args.ids.now (known_over run c.args.requests.now.goals known) tells c.args.told.now c.args.goal.now None None None
    parent provider (sym c.further_unknown.ensures ∙ ap option_copied c.in-None.is)

pub returns-in_ok-from_str-in-Some-further_unknown : goal.returns-in_ok-from_str-in-Some-further_unknown
returns-in_ok-from_str-in-Some-further_unknown c run known tells =
    let parent : find (is_unknown c.args.requests.now.goals) (option_list c.args.goal.now.parent) ≡ None =
    ap (λ (urn : Option (List ℕ)). find (is_unknown c.args.requests.now.goals) (option_list urn)) (sym c.as_ref.ensures.value)
    ∙ sym c.unknown_urn.ensures ∙ ap option_copied c.in_default.is in
    let provider : find (is_unmet_text c.args.requests.now.goals c.args.ids.now) (option_list (given c.args.told.now.provider)) ≡ None =
    ap (λ (text : Option (List ℕ)). find (is_unmet_text c.args.requests.now.goals c.args.ids.now) (option_list text)) (sym c.given.ensures)
    ∙ sym c.in_ok-text.ensures ∙ c.in_default-2.is in
    let further : find (is_unknown c.args.requests.now.goals) (further_urns c.args.goal.now) ≡ Some c.in_ok-from_str-in-Some-further_unknown.field-0 =
    sym c.further_unknown.ensures ∙ ap option_copied c.in-Some-further_unknown.is
    ∙ ap (λ (text : List ℕ). Some text) (sym (c.in_ok-from_str-in-Some-further_unknown.ensures ∙ c.as_str-in-Some-further_unknown.ensures.text)) in
    unknown_by c.args.ids.now (known_over run c.args.requests.now.goals known) tells c.args.told.now c.args.goal.now None None
    (Some c.in_ok-from_str-in-Some-further_unknown.field-0) parent provider further
