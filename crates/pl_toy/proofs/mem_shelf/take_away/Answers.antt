use Rattle.std.proofs.Common.{◌≡◌, rules}
use Rattle.std.proofs.lemmas.Fn.{filter_same}
use Rattle.pl_toy.proofs.Held.{others, held-others}
use Rattle.pl_toy.proofs.mem_shelf.take_away.Goals as goal

pub returns-clause-others : goal.returns-clause-others
returns-clause-others c = filter_same _ _ _ (λ x b f' k. search rules) _ _ c.retain.ensures.filtered

pub returns-clause-taken : goal.returns-clause-taken
returns-clause-taken c =
    let left : c.retain.new.self.items ≡ others c.args.id.now c.args.things.now.items = filter_same _ _ _ (λ x b f' k. search rules) _ _ c.retain.ensures.filtered in
    held-others c.args.id.now c.args.things.now.items c.retain.new.self.items left
