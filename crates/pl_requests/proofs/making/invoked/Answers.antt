use Rattle.std.proofs.Common.{◌≡◌, ◌∙◌, ℕ, false, List, Option, sym, ap, subst}
use Rattle.std.specs.Option.{option_copied}
use Rattle.pl_options.specs.GoalOf.{given}
use Rattle.pl_model.specs.Requests.{invoked_version, is_bad_default, token_package}
use Rattle.pl_requests.specs.Ids.{known_over}
use Rattle.pl_requests.specs.Making.{Provides}
use Rattle.pl_requests.proofs.Makings.{makes_invoked}
use Rattle.pl_requests.proofs.making.invoked.Goals as goal

pub returns-in_ok-provider-in-None : goal.returns-in_ok-provider-in-None
returns-in_ok-provider-in-None c n args known none =
    let provided : c.token_package-package.result.now ≡ token_package c.args.token.now = c.token_package-package.ensures ∙ ap token_package c.as_str.ensures in
    let version : option_copied c.invoked_version-version.result ≡ invoked_version c.args.version.now = c.invoked_version-version.ensures in
    makes_invoked (known_over c.args.run.now c.args.requests.now.goals known) c.args.token.now (invoked_version c.args.version.now)
    (given c.args.provider.now) c.in_ok-provider-in-None.provider (sym c.given.ensures ∙ ap option_copied c.in-None.is)
    (subst (λ (t : List ℕ × Option (List ℕ)). is_bad_default t.0 t.1 ≡ false
    → Provides (known_over c.args.run.now c.args.requests.now.goals known) t.0 t.1 c.in_ok-provider-in-None.provider)
    (λ i. (provided i, version i)) (c.in_ok-provider-in-None.ensures known))
    none
