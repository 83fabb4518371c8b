use Rattle.std.proofs.Common.{◌≡◌, ◌==◌, ◌++◌, ◌∷◌, [], cond, length, None, Some, ap, rules, sym, ◌∙◌}
use Rattle.std.specs.Prelude.{position}
use Rattle.std.specs.Option.{option_or}
use Rattle.pl_snap.specs.Calls.{is_goal}
use Rattle.pl_snap.proofs.ListLemmas.{position-push}
use Rattle.pl_snap.proofs.recorded.Recorded.add.Goals as goal

pub invariant_of-self-in-Ok : goal.invariant_of-self-in-Ok
invariant_of-self-in-Ok c =
    let a = c.self.inside in
    let one = c.args.one in
    let fresh : c.push.new.self.items ≡ a.entries.items ++ c.args.one ∷ [] = search rules in
    let place : c.len-place.result ≡ length a.entries.items = c.len-place.ensures ∙ a.entries.ok.0 in
    λ goal.
    c.in-Ok.ensures.kept goal
    ∙ (λ i. option_or (c.self.invariant goal i) (cond (one.goal == goal) (Some (place i)) None))
    ∙ sym (position-push (is_goal goal) a.entries.items one)
    ∙ ap (position (is_goal goal)) (sym fresh)
