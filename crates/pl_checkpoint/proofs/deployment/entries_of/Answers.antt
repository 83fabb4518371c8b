use Rattle.std.proofs.Common.{◌≡◌, ◌+◌, ◌<◌, List, [], ◌∷◌, ◌++◌, Ok, drop, get_or, length, sym, ap, ◌∙◌, rules}
use Rattle.std.proofs.lemmas.List.{drop_more}
use Rattle.serde_json.specs.View.{items_view, view}
use Rattle.serde_json.specs.declared.value.Value.{Value}
use Rattle.pl_checkpoint.proofs.Told.{after, elements-next}
use Rattle.pl_checkpoint_text.specs.ReadEntry.{entry_in}
use Rattle.pl_checkpoint_text.specs.ReadField.{element_path, elements}
use Rattle.pl_checkpoint.proofs.deployment.entries_of.Goals as goal

pub loop-place-preserved : goal.loop-place-preserved
loop-place-preserved c =
    let l = c.loop-place in
    let base = c.args.path.now in
    let items = c.args.items.now in
    let one = c.in_ok-entry.entry in
    let value = c.index-items-place.result in
    let below : l.place < length items = search rules in
    let at : get_or items l.place value ≡ value = search rules in
    let here : drop l.place items ≡ value ∷ drop (l.place + 1) items = drop_more items l.place value below ∙ ap (λ (v : Value). v ∷ drop (l.place + 1) items) at in
    let path : c.in_ok-path.path ≡ element_path base l.place = search rules in
    let read : entry_in (element_path base l.place) (view value) ≡ Ok one = ap (λ at. entry_in at (view value)) (sym path) ∙ c.in_ok-entry.ensures in
    let pushed : c.push.new.self ≡ l.entries ++ one ∷ [] = search rules in
    l.invariant ∙ ap (λ (vs : List Value). after l.entries (elements entry_in base l.place (items_view vs))) here
    ∙ elements-next entry_in base l.place (view value) (items_view (drop (l.place + 1) items)) l.entries one read
    ∙ ap (λ made. after made (elements entry_in base (l.place + 1) (items_view (drop (l.place + 1) items)))) (sym pushed)
