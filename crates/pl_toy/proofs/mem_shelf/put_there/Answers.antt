use Rattle.std.proofs.Common.{◌≡◌, ℕ, List, ◌∷◌, ◌++◌, [], ◌∙◌, ap}
use Rattle.pl_toy.proofs.Held.{Kept, held-put, others}
use Rattle.pl_toy.proofs.mem_shelf.put_there.Goals as goal

pub returns-clause-put : goal.returns-clause-put
returns-clause-put c =
    let id : List ℕ = c.args.id.now in
    let left : Kept = others id c.args.things.now.items in
    let put : c.push.new.self.items ≡ left ++ (id, c.args.bytes.now) ∷ [] =
    c.in_ok-push.ensures.items
    ∙ ap (λ (kept : Kept). kept ++ (c.in_ok-from_str.field-0, c.in_ok-from_slice.field-0) ∷ []) (c.take_away.ensures.others ∙ ap (others id) c.in_ok-reserve.ensures.items)
    ∙ ap (λ (text : List ℕ). left ++ (text, c.in_ok-from_slice.field-0) ∷ []) c.in_ok-from_str.ensures
    ∙ ap (λ (bytes : List ℕ). left ++ (id, bytes) ∷ []) c.in_ok-from_slice.ensures
    in
    held-put id c.args.bytes.now c.args.things.now.items c.push.new.self.items put
