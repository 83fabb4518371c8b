-- An index of one more entry.
use Rattle.std.proofs.Common.{◌≡◌, ◌&&◌, ◌||◌, ℕ, Bool, true, false, List, [], ◌∷◌, ◌++◌, Option, refl, sym, ap, ◌∙◌}
use Rattle.std.proofs.lemmas.List.Folds.{list_any-append}
use Rattle.std.specs.List.{list_any}
use Rattle.std.specs.Str.{bytes_eq}
use Rattle.pl_sound.specs.declared.seen.Seen.{Seen}
use Rattle.pl_sound.specs.Seen.{gives, has_pair, has_text, HasOneMore}
use Rattle.pl_sound.specs.Sound.{is_met}
use Rattle.pl_state.specs.References.{has_urn, is_id, is_provider}
use Rattle.pl_state.specs.declared.entry.Entry.{Entry}
use Rattle.pl_state.specs.declared.fault.Missing.{Missing}
use Rattle.pl_state.specs.declared.fault.Missing.TheVariants.{Parent, Provider}
use Rattle.pl_refresh.specs.Covers.{Covers}

-- an index of no rows
pub covers_none : (seen : Seen) → ((want : Missing) → gives seen want ≡ is_met [] want) → Covers seen []
covers_none seen same = record {
  urns = λ urn. same (Parent urn);
  things = λ reference. same (Provider reference);
}

or_flip : (here old before : Bool) → old ≡ before → (here || old) ≡ (before || (here || false))
or_flip true old true h = refl
or_flip true old false h = refl
or_flip false old true h = h
or_flip false old false h = h

-- an index of one more row, of which an entry with its URN and id was made
pub covers_more : (old new : Seen) (rows : List Entry) (row made : Entry) → HasOneMore old new row → made.urn ≡ row.urn → made.id ≡ row.id → Covers old rows → Covers new (rows ++ made ∷ [])
covers_more old new rows row made more urn id covers = record {
  urns = λ named.
      more.urns named
      ∙ or_flip (has_urn named row) (has_text old.urns named) (list_any (has_urn named) rows) (covers.urns named)
      ∙ ap (λ (own : List ℕ). list_any (has_urn named) rows || (bytes_eq own named || false)) (sym urn)
      ∙ sym (list_any-append (has_urn named) rows (made ∷ []));
  things = λ reference.
      more.things reference
      ∙ or_flip (is_provider reference row) (has_pair old.things reference.urn reference.id) (list_any (is_provider reference) rows) (covers.things reference)
      ∙ ap (λ (own : List ℕ). list_any (is_provider reference) rows || ((bytes_eq own reference.urn && is_id row.id reference.id) || false)) (sym urn)
      ∙ ap (λ (own : Option (List ℕ)). list_any (is_provider reference) rows || ((bytes_eq made.urn reference.urn && is_id own reference.id) || false)) (sym id)
      ∙ sym (list_any-append (is_provider reference) rows (made ∷ []));
}
