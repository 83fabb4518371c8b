-- The indexes of a walk, and what is told by them of the next row.
use Rattle.std.proofs.Common.{◌≡◌, ◌<◌, ◌+◌, ◌&&◌, ℕ, Bool, cond, if◌then◌else◌, List, length, take, get_or, Option, Some, None, Bor, Ordering, option_and_then, refl, sym, ap, ◌∙◌, arith}
use Rattle.std.proofs.lemmas.List.{length-take-le}
use Rattle.std.proofs.lemmas.Map.Text.{is_eq-slice_cmp}
use Rattle.std.proofs.lemmas.Option.{slice_get_read}
use Rattle.std.specs.BTreeMap.{BTreeMap, Updates}
use Rattle.std.specs.Cmp.Lexicographic.{slice_cmp}
use Rattle.std.specs.List.{slice_get}
use Rattle.std.specs.Ordering.{is_eq, nat_cmp, ordering_then}
use Rattle.std.specs.Str.{bytes_eq}
use Rattle.std.specs.declared.cmp.Ordering.TheVariants.{Less, Equal, Greater}
use Rattle.pl_reference.specs.declared.reference.ProviderRef.{ProviderRef}
use Rattle.pl_refresh.specs.Parents.{place_in}
use Rattle.pl_refresh.proofs.Ancestors.{last_place-more}
use Rattle.pl_state.specs.Chain.{deleter_row_of, last_of_urn, last_place, last_provider, provider_row_of}
use Rattle.pl_state.specs.References.{has_urn, is_provider}
use Rattle.pl_state.specs.declared.entry.Entry.{Entry}
use Rattle.pl_base.specs.Index.{LeadsToRows, LeadsToThings, provider_in, thing_in}
use Rattle.pl_base.proofs.Told.{rows_more}

-- ---- a URN and an id

abbrev pair_cmp : Bor (List ℕ) × Bor (List ℕ) → Bor (List ℕ) × Bor (List ℕ) → Ordering
pair_cmp x y = ordering_then (slice_cmp nat_cmp x.0.now y.0.now) (slice_cmp nat_cmp x.1.now y.1.now)

-- a reference to a text
abbrev to : List ℕ → Bor (List ℕ)
to text = record { ref_ptr = (0, 0); now = text }

is_eq-then : (a b : Ordering) → is_eq (ordering_then a b) ≡ (is_eq a && is_eq b)
is_eq-then Less b = refl
is_eq-then Equal b = refl
is_eq-then Greater b = refl

-- the index after `insert` of a URN and an id
pub thing_put : (old new : BTreeMap (Bor (List ℕ) × Bor (List ℕ)) ℕ) (first second : Bor (List ℕ)) (place : ℕ)
    → Updates pair_cmp old new (first, second) (Some place) → (one other : List ℕ)
    → thing_in new one other ≡ (if bytes_eq first.now one && bytes_eq second.now other then Some place else thing_in old one other)
thing_put old new first second place updates one other =
    updates.0 (to one, to other)
    ∙ ap (λ (b : Bool). cond b (Some place) (thing_in old one other))
    (is_eq-then (slice_cmp nat_cmp first.now one) (slice_cmp nat_cmp second.now other)
    ∙ (λ i. is_eq-slice_cmp first.now one i && is_eq-slice_cmp second.now other i))

-- what is kept of a reference that there may be
pub provider_found : (things : BTreeMap (Bor (List ℕ) × Bor (List ℕ)) ℕ) (rows : List Entry) (reference : Option ProviderRef)
    → LeadsToThings things rows → provider_in things reference ≡ last_provider reference rows
provider_found things rows None leads = refl
provider_found things rows (Some named) leads = leads named

-- ---- one row more

module _ (rows : List Entry) (i : ℕ) (row : Entry) (inside : i < length rows) (is : row ≡ get_or rows i row) where
  last_more : (test : Entry → Bool) → (if test row then Some i else last_place test (take i rows)) ≡ last_place test (take (i + 1) rows)
  last_more test =
      let long : length (take i rows) ≡ i = length-take-le i rows (omega arith) in
      ap (λ (n : ℕ). if test row then Some n else last_place test (take i rows)) (sym long)
      ∙ sym (last_place-more test (take i rows) row)
      ∙ ap (last_place test) (sym (rows_more rows i row inside is))

  pub things_more : (old new : BTreeMap (Bor (List ℕ) × Bor (List ℕ)) ℕ) → LeadsToThings old (take i rows)
      → ((reference : ProviderRef) → thing_in new reference.urn reference.id
      ≡ (if is_provider reference row then Some i else thing_in old reference.urn reference.id))
      → LeadsToThings new (take (i + 1) rows)
  things_more old new leads added reference =
      added reference
      ∙ ap (λ (o : Option ℕ). if is_provider reference row then Some i else o) (leads reference)
      ∙ last_more (is_provider reference)

  pub places_more : (old new : BTreeMap (Bor (List ℕ)) ℕ) → LeadsToRows old (take i rows)
      → ((urn : List ℕ) → place_in new urn ≡ (if has_urn urn row then Some i else place_in old urn))
      → LeadsToRows new (take (i + 1) rows)
  places_more old new leads added urn =
      added urn
      ∙ ap (λ (o : Option ℕ). if has_urn urn row then Some i else o) (leads urn)
      ∙ last_more (has_urn urn)

  here : slice_get rows i ≡ Some row
  here = slice_get_read rows (length rows) i row refl inside is

  pub provider_told : (things : BTreeMap (Bor (List ℕ) × Bor (List ℕ)) ℕ) → LeadsToThings things (take i rows)
      → provider_in things row.provider ≡ provider_row_of rows i
  provider_told things leads =
      provider_found things (take i rows) row.provider leads
      ∙ sym (ap (option_and_then (λ (one : Entry). last_provider one.provider (take i rows))) here)

  pub deleter_told : (places : BTreeMap (Bor (List ℕ)) ℕ) → LeadsToRows places (take i rows)
      → option_and_then (place_in places) row.deleted_with ≡ deleter_row_of rows i
  deleter_told places leads =
      by row.deleted_with
      ∙ sym (ap (option_and_then (λ (one : Entry). last_of_urn one.deleted_with (take i rows))) here)
    where
      by : (urn : Option (List ℕ)) → option_and_then (place_in places) urn ≡ last_of_urn urn (take i rows)
      by None = refl
      by (Some urn) = leads urn
