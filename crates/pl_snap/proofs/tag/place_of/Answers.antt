use Rattle.std.proofs.Common.{◌∙◌, rules}
use Rattle.std.proofs.lemmas.List.Sorted.{answers_always}
use Rattle.pl_snap.proofs.Rising.{searched}
use Rattle.pl_snap.proofs.tag.place_of.Goals as goal

-- the closure gives a tag's number
pub returns : goal.returns
returns c =
    let facts = c.binary_search_by_key.ensures in
    let by_number = facts.position (λ tag. tag.number) (answers_always _ _ _ (λ f a r g called. search rules)) in
    c.ok.ensures.value ∙ searched c.args.tags.now c.args.number c.requires c.binary_search_by_key.result facts.bound by_number
