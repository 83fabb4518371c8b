use Rattle.std.proofs.Common.{rules, refl, ◌∙◌}
use Rattle.pl_desk.specs.Posed.{number_in, turn_in, made_in, origin_in, seen_in, mine_in, gathered_in}
use Rattle.pl_desk.proofs.Loads.{alike}
use Rattle.pl_desk.proofs.seats.rest.Goals as goal

pub look-word-requires-clause-turn : goal.look-word-requires-clause-turn
look-word-requires-clause-turn g c = alike turn_in (λ n k v. refl) _ _ c.loop.invariant.1 ∙ c.requires.turn

pub returns-then-word-eq1-clause-same : goal.returns-then-word-eq1-clause-same
returns-then-word-eq1-clause-same g c = let is = c.look-word.ensures.place ∙ c.loop.invariant.1 in (
  search rules,
  alike number_in (λ n k v. refl) _ _ is,
  alike turn_in (λ n k v. refl) _ _ is ∙ c.requires.turn,
  alike made_in (λ n k v. refl) _ _ is,
  alike (origin_in g.J.Chronicle.origin) (λ n k v. refl) _ _ is,
)

pub returns-then-word-eq1-clause-lines : goal.returns-then-word-eq1-clause-lines
returns-then-word-eq1-clause-lines g c = let is = c.look-word.ensures.place ∙ c.loop.invariant.1 in let lines = g.J.Chronicle.lines in let f = g.J.Chronicle.number_of in
    (alike (seen_in lines) (λ n k v. refl) _ _ is, alike (mine_in lines f) (λ n k v. refl) _ _ is, alike (gathered_in lines f) (λ n k v. refl) _ _ is)
