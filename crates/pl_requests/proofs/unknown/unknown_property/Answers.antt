use Rattle.std.proofs.Common.{◌≡◌, ◌∙◌, None, Some, is_some, sym, ap}
use Rattle.std.specs.List.{find}
use Rattle.std.specs.Option.{option_copied}
use Rattle.pl_options.specs.declared.fault.BadText.TheVariants as text
use Rattle.pl_options.proofs.FirstBad.{keyed_later, keyed_refused}
use Rattle.pl_model.specs.Claims.{goal_number}
use Rattle.pl_requests.specs.Reading.{is_unknown}
use Rattle.pl_requests.proofs.unknown.unknown_property.Goals as goal

pub returns-in-Some : goal.returns-in-Some
returns-in-Some c =
    let found : find (is_unknown c.args.requests.now.goals) c.pair-item.result.1 ≡ Some c.in-Some.urn.now =
    ap (find (is_unknown c.args.requests.now.goals)) (sym c.as_slice.ensures) ∙ sym c.first_unknown.ensures ∙ ap option_copied c.in-Some.is in
    sym (keyed_refused (λ urn. is_some (goal_number c.args.requests.now.goals urn)) _ _ _ (text.Refused c.in-Some.urn.now)
    c.loop-pair-test.true c.pair-item.is c.loop-pair.invariant found)

pub loop-pair-preserved : goal.loop-pair-preserved
loop-pair-preserved c =
    let none : find (is_unknown c.args.requests.now.goals) c.pair-item.result.1 ≡ None =
    ap (find (is_unknown c.args.requests.now.goals)) (sym c.as_slice.ensures) ∙ sym c.first_unknown.ensures ∙ ap option_copied c.in_default.is in
    keyed_later (λ urn. is_some (goal_number c.args.requests.now.goals urn)) _ _ _
    c.loop-pair-test.true c.pair-item.is c.loop-pair.invariant none
