use Rattle.std.proofs.Common.{◌≡◌, ◌∙◌, ℕ, true, false, List, Option, sym, subst}
use Rattle.std.proofs.lemmas.Result.{IfOk-weaker}
use Rattle.std.specs.Option.{option_copied}
use Rattle.pl_urn.specs.Grammar.{package_of}
use Rattle.pl_model.specs.Requests.{is_bad_default, newest_number, uses_default, with_goal}
use Rattle.pl_requests.specs.declared.making.Making.{Making}
use Rattle.pl_requests.specs.Ids.{known_over}
use Rattle.pl_requests.specs.Making.{Makes, Provides}
use Rattle.pl_requests.proofs.Makings.{makes_by_default}
use Rattle.pl_requests.proofs.making.made_of_goal.Goals as goal

pub returns-in_ok-provider : goal.returns-in_ok-provider
returns-in_ok-provider c =
    let uses : uses_default c.args.told.now c.args.goal ≡ true = sym c.uses_default.ensures ∙ c.if-uses_default.true in
    let provided : c.«package».result.now ≡ package_of c.args.goal.urn = c.«package».ensures in
    let version : option_copied c.text_in-version.result ≡ c.args.goal.version = c.text_in-version.ensures in
    IfOk-weaker c.own_making.result _ _
    (λ making same known none.
    subst (λ (making : Making). Makes (known_over c.args.run.now c.args.requests.now.goals known)
    (with_goal (known_over c.args.run.now c.args.requests.now.goals known) c.args.told.now c.args.goal)
    (newest_number (with_goal (known_over c.args.run.now c.args.requests.now.goals known) c.args.told.now c.args.goal)) making)
    (sym same)
    (makes_by_default (known_over c.args.run.now c.args.requests.now.goals known) c.args.told.now c.args.goal c.in_ok-provider.provider uses
    (subst (λ (t : List ℕ × Option (List ℕ)). is_bad_default t.0 t.1 ≡ false
    → Provides (known_over c.args.run.now c.args.requests.now.goals known) t.0 t.1 c.in_ok-provider.provider)
    (λ i. (provided i, version i)) (c.in_ok-provider.ensures known))
    none))
    c.own_making.ensures
