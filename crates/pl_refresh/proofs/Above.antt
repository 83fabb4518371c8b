-- Where the parents of rows stand, row by row.
use Rattle.std.proofs.Common.{◌≡◌, ◌<◌, ℕ, zero, suc, cond, List, [], ◌∷◌, ◌++◌, length, take, get_or, Option, Some, None, Bor, refl, sym, ap, ◌∙◌, append_assoc, arith}
use Rattle.std.proofs.lemmas.List.{append-nil}
use Rattle.std.specs.BTreeMap.{BTreeMap}
use Rattle.std.specs.Option.{option_and_then}
use Rattle.std.specs.Str.{bytes_eq}
use Rattle.pl_state.specs.Chain.{last_of_urn, last_place}
use Rattle.pl_state.specs.References.{has_urn}
use Rattle.pl_state.specs.declared.entry.Entry.{Entry}
use Rattle.pl_refresh.specs.Parents.{Leads, parents_behind, place_in}
use Rattle.pl_refresh.proofs.Ancestors.{last_place-more}

parents-more : (before rows : List Entry) (row : Entry) → parents_behind before (rows ++ row ∷ []) ≡ parents_behind before rows ++ last_of_urn row.parent (before ++ rows) ∷ []
parents-more before [] row = ap (λ (l : List Entry). last_of_urn row.parent l ∷ []) (sym (append-nil before))
parents-more before (first ∷ rows) row =
    ap (λ (l : List (Option ℕ)). last_of_urn first.parent before ∷ l)
    (parents-more (before ++ first ∷ []) rows row
    ∙ ap (λ (l : List Entry). parents_behind (before ++ first ∷ []) rows ++ last_of_urn row.parent l ∷ []) (append_assoc before (first ∷ []) rows))

length-parents : (before rows : List Entry) → length (parents_behind before rows) ≡ length rows
length-parents before [] = refl
length-parents before (row ∷ rows) = ap suc (length-parents (before ++ row ∷ []) rows)

parents_behind-at : (before rows : List Entry) (at : ℕ) (row : Entry) (other : Option ℕ) → at < length rows → get_or (parents_behind before rows) at other ≡ last_of_urn (get_or rows at row).parent (before ++ take at rows)
parents_behind-at before [] at row other inside = absurd (omega arith)
parents_behind-at before (first ∷ rows) zero row other inside = ap (last_of_urn first.parent) (sym (append-nil before))
parents_behind-at before (first ∷ rows) (suc at) row other inside =
    parents_behind-at (before ++ first ∷ []) rows at row other (omega arith)
    ∙ ap (last_of_urn (get_or rows at row).parent) (append_assoc before (first ∷ []) (take at rows))

-- a list that tells the parents is as long as the rows
pub parents_inside : (rows : List Entry) (parents : List (Option ℕ)) (at : ℕ) → parents ≡ parents_behind [] rows → at < length rows → at < length parents
parents_inside rows parents at h inside =
    let long : length parents ≡ length rows = ap length h ∙ length-parents [] rows in
    omega arith

-- what it tells of a row
pub parent_told : (rows : List Entry) (parents : List (Option ℕ)) (at : ℕ) (row : Entry) → parents ≡ parents_behind [] rows → at < length rows → row ≡ get_or rows at row → get_or parents at None ≡ last_of_urn row.parent (take at rows)
parent_told rows parents at row h inside is =
    ap (λ (l : List (Option ℕ)). get_or l at None) h
    ∙ parents_behind-at [] rows at row None inside
    ∙ ap (λ (r : Entry). last_of_urn r.parent (take at rows)) (sym is)

-- the last row of a URN that there may be
pub last_told : (places : BTreeMap (Bor (List ℕ)) ℕ) (parents : List (Option ℕ)) (rows : List Entry) (urn : Option (List ℕ)) → Leads places parents rows → option_and_then (place_in places) urn ≡ last_of_urn urn rows
last_told places parents rows None leads = refl
last_told places parents rows (Some urn) leads = leads.last urn

-- one row more
pub leads_more : (old new : BTreeMap (Bor (List ℕ)) ℕ) (parents : List (Option ℕ)) (rows more : List Entry) (row : Entry) (place : ℕ) (parent : Option ℕ) → Leads old parents rows → more ≡ rows ++ row ∷ [] → place ≡ length rows → parent ≡ last_of_urn row.parent rows → ((other : List ℕ) → place_in new other ≡ cond (bytes_eq row.urn other) (Some place) (place_in old other)) → Leads new (parents ++ parent ∷ []) more
leads_more old new parents rows more row place parent leads is here up put = record {
  last = λ urn.
      put urn
      ∙ ap (λ (o : Option ℕ). cond (bytes_eq row.urn urn) (Some place) o) (leads.last urn)
      ∙ ap (λ (n : ℕ). cond (bytes_eq row.urn urn) (Some n) (last_place (has_urn urn) rows)) here
      ∙ sym (last_place-more (has_urn urn) rows row)
      ∙ ap (last_place (has_urn urn)) (sym is);
  above =
      ap (λ (l : List (Option ℕ)). l ++ parent ∷ []) leads.above
      ∙ ap (λ (o : Option ℕ). parents_behind [] rows ++ o ∷ []) up
      ∙ sym (parents-more [] rows row)
      ∙ ap (parents_behind []) (sym is);
}
