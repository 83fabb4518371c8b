use Rattle.std.proofs.Common.{◌≡◌, ◌∙◌, None, Some, sym, ap, subst}
use Rattle.std.specs.Option.{option_copied}
use Rattle.pl_model.specs.Claims.{goal_number}
use Rattle.pl_model.specs.Requests.{default_goal, default_urn}
use Rattle.pl_requests.specs.declared.default.DefaultProvider.{DefaultProvider}
use Rattle.pl_requests.specs.Ids.{known_over}
use Rattle.pl_requests.specs.Making.{Provides}
use Rattle.pl_requests.proofs.Defaults.{is_made}
use Rattle.pl_requests.proofs.default.provider_of.Goals as goal

pub returns-in_ok-made-in-None : goal.returns-in_ok-made-in-None
returns-in_ok-made-in-None c known same =
    let made : c.in_ok-made-in-None.made ≡ default_goal (known_over c.args.run.now c.args.requests.now.goals known) c.args.provided.now (option_copied c.args.version) =
    c.in_ok-made-in-None.ensures ∙ c.in_ok-goal-in-None.ensures.made c.args.requests.now.goals known same in
    let none : goal_number c.args.requests.now.goals (default_urn (known_over c.args.run.now c.args.requests.now.goals known) c.args.provided.now (option_copied c.args.version)) ≡ None =
    ap (goal_number c.args.requests.now.goals) (sym (c.as_str.ensures.text ∙ same)) ∙ sym c.goal_number.ensures ∙ c.in-None.is in
    subst (λ (provider : DefaultProvider). Provides (known_over c.args.run.now c.args.requests.now.goals known) c.args.provided.now (option_copied c.args.version) provider)
    (λ i. record { missing = Some (sym made i); number = Some (sym c.len.ensures.count i) })
    (is_made (known_over c.args.run.now c.args.requests.now.goals known) c.args.provided.now (option_copied c.args.version) none)
