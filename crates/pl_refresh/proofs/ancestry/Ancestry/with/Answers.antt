use Rattle.std.proofs.Common.{◌++◌, ◌∷◌, [], ℕ, List, Option, Some, cond, length, refl, ap, sym, subst, ◌∙◌}
use Rattle.std.specs.Option.{option_and_then}
use Rattle.std.specs.Str.{bytes_eq}
use Rattle.pl_state.specs.declared.entry.Entry.{Entry}
use Rattle.pl_refresh.specs.Parents.{Leads, place_in}
use Rattle.pl_refresh.proofs.Above.{last_told, leads_more}
use Rattle.pl_refresh.proofs.ancestry.Ancestry.with.Goals as goal

pub invariant_of-result : goal.invariant_of-result
invariant_of-result c =
    let rows : List Entry = c.self.inside.rows.now in
    let row : Entry = c.args.row.now in
    let up = c.place_of-parent.ensures ∙ ap (option_and_then (place_in c.self.inside.places)) c.as_ref.ensures.value ∙ last_told c.self.inside.places c.self.inside.parents.items rows row.parent c.self.invariant in
    subst (λ (parents : List (Option ℕ)). Leads c.put_place.new.places parents c.args.rows.now) (sym c.in_ok-push.ensures.items)
    (leads_more c.self.inside.places c.put_place.new.places c.self.inside.parents.items rows c.args.rows.now row (length rows) c.place_of-parent.result c.self.invariant
    (c.requires ∙ ap (λ (l : List Entry). l ++ row ∷ []) (sym c.self.view_is))
    refl
    up
    (λ other. c.in_ok-put_place.ensures other ∙ ap (λ (urn : List ℕ). cond (bytes_eq urn other) (Some (length rows)) (place_in c.self.inside.places other)) c.as_str.ensures.text))
