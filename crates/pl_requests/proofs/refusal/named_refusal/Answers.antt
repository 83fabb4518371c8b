use Rattle.std.proofs.Common.{◌≡◌, ◌∙◌, ℕ, true, false, List, Some, sym, ap, rules}
use Rattle.pl_decide.specs.declared.problem.Problem.TheVariants.{UnknownReference}
use Rattle.pl_reference.specs.Reference.{is_reference}
use Rattle.pl_model.specs.Requests.{is_met_reference}
use Rattle.pl_requests.specs.Ids.{known_over}
use Rattle.pl_requests.proofs.References.{met_is}
use Rattle.pl_requests.proofs.Refusals.{named_refused}
use Rattle.pl_requests.proofs.refusal.named_refusal.Goals as goal

pub returns : goal.returns
returns c run known tells token version =
    let read : c.in_ok-is_reference.field-0 ≡ true = search rules in
    let reads : is_reference c.args.text.now ≡ true = sym c.in_ok-is_reference.ensures ∙ read in
    let meets : is_met_reference (known_over run c.args.requests.now.goals known) c.args.text.now ≡ false =
    sym (met_is c.args.ids.now (known_over run c.args.requests.now.goals known) tells c.args.text.now)
    ∙ sym c.in_ok-is_met_reference.ensures ∙ c.if-branch.false in
    sym (named_refused (known_over run c.args.requests.now.goals known) token c.args.text.now version true false reads meets
    ∙ ap (λ (text : List ℕ). Some (UnknownReference text)) (sym c.in_ok-from_str-2.ensures))
