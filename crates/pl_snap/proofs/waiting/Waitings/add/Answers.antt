use Rattle.std.proofs.Common.{◌≡◌, ◌++◌, ◌∷◌, [], List, rules, ap, ◌∙◌}
use Rattle.pl_snap.specs.Lists.{zip_by}
use Rattle.pl_snap.specs.Model.{Waiting}
use Rattle.pl_snap.specs.Rows.{tagged_pending}
use Rattle.pl_snap.proofs.ListLemmas.{zip-append}
use Rattle.pl_snap.proofs.waiting.Waitings.add.Goals as goal

pub returns-clause-added : goal.returns-clause-added
returns-clause-added c =
    let a = c.self.inside in
    let tags : c.push.new.self.items ≡ a.tags.items ++ c.args.tag ∷ [] = search rules in
    let operations : c.push-2.new.self.items ≡ a.operations.items ++ c.args.pending ∷ [] = search rules in
    (λ i. zip_by tagged_pending (tags i) (operations i))
    ∙ zip-append tagged_pending a.tags.items a.operations.items c.args.tag c.args.pending c.self.invariant.0
    ∙ ap (λ (all : List Waiting). all ++ tagged_pending c.args.tag c.args.pending ∷ []) c.self.view_is
