use Rattle.std.proofs.Common.{◌≡◌, ◌∙◌, None, Some, option_map, sym, ap}
use Rattle.std.specs.List.{slice_get}
use Rattle.std.specs.Option.{option_copied}
use Rattle.pl_claims.proofs.Seen.{chain_seen}
use Rattle.pl_claims.proofs.claims.Claims.chain.Goals as goal

pub returns-in-None : goal.returns-in-None
returns-in-None c =
    let here : slice_get c.self.inside.settled.items c.args.goal ≡ None =
    ap (λ items. slice_get items c.args.goal) (sym c.as_slice.ensures.value) ∙ sym c.settled_at.ensures ∙ ap option_copied c.in-None.is in
    sym (chain_seen c.self.inside c.self.invariant c.args.self.now c.self.view_is c.args.goal ∙ ap (option_map (λ one. one.chain)) here)

pub returns-in-Some : goal.returns-in-Some
returns-in-Some c =
    let here : slice_get c.self.inside.settled.items c.args.goal ≡ Some c.in-Some.one.now =
    ap (λ items. slice_get items c.args.goal) (sym c.as_slice.ensures.value) ∙ sym c.settled_at.ensures ∙ ap option_copied c.in-Some.is in
    sym (chain_seen c.self.inside c.self.invariant c.args.self.now c.self.view_is c.args.goal ∙ ap (option_map (λ one. one.chain)) here)
