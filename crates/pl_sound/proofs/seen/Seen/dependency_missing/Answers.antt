use Rattle.std.proofs.Common.{◌∙◌, ap, Some, None}
use Rattle.pl_state.specs.declared.fault.Missing.TheVariants.{Dependency}
use Rattle.pl_sound.proofs.Index.{dependencies_found}
use Rattle.pl_sound.proofs.seen.Seen.dependency_missing.Goals as goal

pub returns-in_default : goal.returns-in_default
returns-in_default c = dependencies_found c.args.self.now c.args.urns.now None c.in_default.ensures

pub returns : goal.returns
returns c =
    ap (λ urn. Some (Dependency urn)) c.in_ok-urn.ensures
    ∙ dependencies_found c.args.self.now c.args.urns.now (Some c.in-Some.urn.now) c.in-Some.ensures
