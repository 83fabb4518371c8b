-- The state of a run that reads everything anew is sound: what nothing meets is taken out of it.
use Rattle.std.proofs.Common.{◌≡◌, ◌≢◌, ℕ, suc, ◌+◌, Bool, true, false, ◌||◌, if◌then◌else◌, List, [], ◌∷◌, ◌++◌, AllPairs, length, map, reverse, take, Option, Some, None, refl, sym, ◌∙◌, ap, subst, arith}
use Rattle.std.proofs.lemmas.Slice.Eq.{bytes_eq-Decides}
use Rattle.std.specs.List.{enumerate_from, list_any}
use Rattle.std.proofs.lemmas.Option.{same_Some}
use Rattle.pl_lemmas.proofs.Each.{Each, Pairwise, each_weaker, each_append, all_each}
use Rattle.pl_reference.specs.declared.reference.ProviderRef.{ProviderRef}
use Rattle.pl_refresh.specs.Refreshed.{Left, all_left, if_there, imported_left, is_there, keyed_left, nearest, past_row, provider_left, pruned, pruned_behind, pruned_row, replaced_left, replaced_row, rows_left, urns_left}
use Rattle.pl_refresh.specs.declared.row_now.RowNow.{RowNow}
use Rattle.pl_refresh.specs.declared.row_now.RowNow.TheVariants as now
use Rattle.pl_state.specs.References.{has_urn, is_provider}
use Rattle.pl_sound.specs.Sound.{IsSound}
use Rattle.pl_state.specs.declared.entry.Entry.{Entry}
use Rattle.pl_events.specs.declared.event.Event.{Event}
use Rattle.pl_events.specs.declared.operation.Op.TheVariants as op
use Rattle.pl_events.specs.declared.operation.Subject.TheVariants as subject
use Rattle.pl_events.specs.declared.reply.Reply.{Reply}
use Rattle.pl_events.specs.declared.reply.Reply.TheVariants as reply
use Rattle.pl_model.specs.declared.fixed.Fixed.{Fixed}
use Rattle.pl_model.specs.Run.{is_refresh, rows_of}
use Rattle.pl_model.specs.Entries.{new_entries, old_entries}
use Rattle.pl_model.specs.History.{known_of}
use Rattle.pl_model.specs.Known.{Known}
use Rattle.pl_model.specs.Legal.{IsOrderly}
use Rattle.pl_model.specs.State.{imported_entries, refreshed_entries, row_read, rows_read, state_of}
use Rattle.pl_model.specs.Tickets.{reply_to}
use Rattle.pl_model_stays.proofs.Lists.Growing.{run_of}
use Rattle.pl_model_stays.proofs.Lists.Pairs.{each-passes, pairs-all, pairs-append, pairs-weaker, each_map}
use Rattle.pl_model_laws.specs.Apart.{AreApart, KeepsApart}
use Rattle.pl_model_laws.proofs.Rereadings.Importing.{imported-apart}
use Rattle.pl_model_laws.proofs.References.Sounding.{RefersBack, refers-more, refers-none, sound-from}
use Rattle.pl_model_laws.proofs.References.Wants.{MeetsKinds, met_by_kinds}

-- ---- what is left of references

-- what is left of a URN that has to be there is there
there_if : (there : List ℕ → Bool) (o : Option (List ℕ)) (urn : List ℕ) → if_there there o ≡ Some urn → there urn ≡ true
there_if there None urn h = absurd (let e : None ≡ Some urn = h in cc)
there_if there (Some own) urn h = by (there own) refl h
  where
    by : (b : Bool) → there own ≡ b → (if b then Some own else None) ≡ Some urn → there urn ≡ true
    by true is h = ap (λ (it : List ℕ). there it) (sym (same_Some own urn h)) ∙ is
    by false is h = absurd (let e : None ≡ Some urn = h in cc)

-- the nearest that is there is there
nearest_there : (there : List ℕ → Bool) (before : List Entry) (o : Option (List ℕ)) (urn : List ℕ) → nearest there before o ≡ Some urn
    → there urn ≡ true
nearest_there there [] o urn h = there_if there o urn h
nearest_there there (row ∷ before) None urn h = nearest_there there before None urn h
nearest_there there (row ∷ before) (Some own) urn h = by (there own) refl h (nearest_there there before (past_row row (Some own)) urn)
  where
    by : (b : Bool) → there own ≡ b → (if b then Some own else nearest there before (past_row row (Some own))) ≡ Some urn
        → (nearest there before (past_row row (Some own)) ≡ Some urn → there urn ≡ true) → there urn ≡ true
    by true is h rest = ap (λ (it : List ℕ). there it) (sym (same_Some own urn h)) ∙ is
    by false is h rest = rest h

-- a provider that is left is there
provider_there : (earlier : List Entry) (o : Option ProviderRef) (reference : ProviderRef) → provider_left earlier o ≡ Some reference
    → list_any (is_provider reference) earlier ≡ true
provider_there earlier None reference h = absurd (let e : None ≡ Some reference = h in cc)
provider_there earlier (Some own) reference h = by (list_any (is_provider own) earlier) refl h
  where
    by : (b : Bool) → list_any (is_provider own) earlier ≡ b → (if b then Some own else None) ≡ Some reference
        → list_any (is_provider reference) earlier ≡ true
    by true is h = ap (λ (it : ProviderRef). list_any (is_provider it) earlier) (sym (same_Some own reference h)) ∙ is
    by false is h = absurd (let e : None ≡ Some reference = h in cc)

-- the URNs that are left are there
urns_there : (earlier : List Entry) (urns : List (List ℕ)) → Each (λ urn. list_any (has_urn urn) earlier ≡ true) (urns_left earlier urns)
urns_there earlier urns = each-passes (is_there earlier) urns

-- and so are those of each property
keyed_there : (earlier : List Entry) (pairs : List (List ℕ × List (List ℕ)))
    → Each (λ (pair : List ℕ × List (List ℕ)). Each (λ urn. list_any (has_urn urn) earlier ≡ true) pair.1) (keyed_left earlier pairs)
keyed_there earlier [] = tt
keyed_there earlier (pair ∷ pairs) = (urns_there earlier pair.1, keyed_there earlier pairs)

-- what is left of an entry's references is met
pruned_meets : (base earlier : List Entry) (left : Left) → MeetsKinds earlier (pruned_row base earlier left)
pruned_meets base earlier left = record {
  parent = λ urn is. nearest_there (is_there earlier) (reverse (take left.place base)) left.row.parent urn is;
  provider = λ reference is. provider_there earlier left.row.provider reference is;
  dependencies = urns_there earlier left.row.dependencies;
  property_dependencies = keyed_there earlier left.row.property_dependencies;
  deleted_with = λ urn is. there_if (is_there earlier) left.row.deleted_with urn is;
}

-- so each entry finds what it refers to
pruned_back : (base earlier : List Entry) (lefts : List Left) → RefersBack earlier → RefersBack (pruned_behind base earlier lefts)
pruned_back base earlier [] back = back
pruned_back base earlier (left ∷ more) back =
    pruned_back base (earlier ++ pruned_row base earlier left ∷ []) more
    (refers-more earlier (pruned_row base earlier left) back
    (met_by_kinds earlier (pruned_row base earlier left) (pruned_meets base earlier left)))

-- ---- URNs

-- two entries of the result are apart before their references are looked at
abbrev LeftApart : Left → Left → Type 0
LeftApart one other = AreApart one.row other.row

abbrev ApartFrom : Entry → List Left → Type 0
ApartFrom row lefts = Each (λ (left : Left). AreApart row left.row) lefts

-- the references that are taken out are no matter
pruned_apart : (base earlier : List Entry) (lefts : List Left) → Pairwise AreApart earlier → Pairwise LeftApart lefts
    → Each (λ (row : Entry). ApartFrom row lefts) earlier → Pairwise AreApart (pruned_behind base earlier lefts)
pruned_apart base earlier [] own apart cross = own
pruned_apart base earlier (left ∷ more) own apart cross =
    pruned_apart base (earlier ++ pruned_row base earlier left ∷ []) more
    (pairs-append AreApart earlier (pruned_row base earlier left ∷ []) own (tt, tt)
    (each_weaker (λ (row : Entry). ApartFrom row (left ∷ more)) (λ (row : Entry). Each (AreApart row) (pruned_row base earlier left ∷ []))
    (λ row both. (both.0, tt)) earlier cross))
    apart.1
    (each_append (λ (row : Entry). ApartFrom row more) earlier (pruned_row base earlier left ∷ [])
    (each_weaker (λ (row : Entry). ApartFrom row (left ∷ more)) (λ (row : Entry). ApartFrom row more) (λ row both. both.1) earlier cross)
    (apart.0, tt))

-- a mapped list stands in a relation that its elements stand in once they are mapped
pairs_map : {X Y : Type 0} (f : X → Y) (R : Y → Y → Type 0) (xs : List X) → Pairwise (λ x y. R (f x) (f y)) xs → Pairwise R (map f xs)
pairs_map f R [] h = tt
pairs_map f R (x ∷ xs) h = (each_map f (R (f x)) xs h.0, pairs_map f R xs h.1)

-- a relation of every two places is one of every two elements
pairs_from : {X : Type 0} (R : X → X → Type 0) (xs : List X) → AllPairs R xs → Pairwise R xs
pairs_from R [] h = tt
pairs_from R (x ∷ xs) h = (
  all_each (R x) xs (λ k d low. h 0 (suc k) d (omega arith) (omega arith)),
  pairs_from R xs (λ i j d before low. h (suc i) (suc j) d (omega arith) (omega arith)),
)

-- ---- rows as they were read

-- what is said of a row leaves it its URN and whether it is to be deleted
abbrev Keeps : Entry → RowNow → Type 0
Keeps row (now.Found entry) = (entry.urn ≡ row.urn) × (entry.doomed ≡ row.doomed)
Keeps row _ = Unit

abbrev KeepEach : List Entry → List RowNow → Type 0
KeepEach [] said = Unit
KeepEach (row ∷ rows) [] = Unit
KeepEach (row ∷ rows) (one ∷ said) = Keeps row one × KeepEach rows said

-- a reading leaves a row both
read_keeps : (row : Entry) (o : Option Reply) → Keeps row (row_read row o)
read_keeps row (Some (reply.Found id inputs outputs)) = (refl, refl)
read_keeps row (Some reply.Gone) = tt
read_keeps row _ = tt

reads_keep : (known : Known) (place : ℕ) (rows : List Entry)
    → KeepEach rows (map (λ (row : ℕ × Entry). row_read row.1 (reply_to known.answers (op.Read (subject.Row row.0)))) (enumerate_from place rows))
reads_keep known place [] = tt
reads_keep known place (row ∷ rows) =
    (read_keeps row (reply_to known.answers (op.Read (subject.Row place))), reads_keep known (place + 1) rows)

-- where nothing is said, each is as it was
keeps_none : (rows : List Entry) → KeepEach rows []
keeps_none [] = tt
keeps_none (row ∷ rows) = tt

-- apart from rows is apart from what is left of them
left_from : (one : Entry) (place : ℕ) (rows : List Entry) (said : List RowNow) → KeepEach rows said → Each (AreApart one) rows
    → ApartFrom one (rows_left place rows said)
left_from one place [] said keep apart = tt
left_from one place (row ∷ rows) [] keep apart = (apart.0, left_from one (suc place) rows [] (keeps_none rows) apart.1)
left_from one place (row ∷ rows) (now.AsItWas ∷ said) keep apart = (apart.0, left_from one (suc place) rows said keep.1 apart.1)
left_from one place (row ∷ rows) (now.Gone ∷ said) keep apart = left_from one (suc place) rows said keep.1 apart.1
left_from one place (row ∷ rows) (now.Found entry ∷ said) keep apart = (
  λ stays remains same. apart.0 stays (sym keep.0.1 ∙ remains) (same ∙ keep.0.0),
  left_from one (suc place) rows said keep.1 apart.1,
)

-- what is left of rows that are apart is apart
left_apart : (place : ℕ) (rows : List Entry) (said : List RowNow) → KeepEach rows said → Pairwise AreApart rows
    → Pairwise LeftApart (rows_left place rows said)
left_apart place [] said keep apart = tt
left_apart place (row ∷ rows) [] keep apart =
    (left_from row (suc place) rows [] (keeps_none rows) apart.0, left_apart (suc place) rows [] (keeps_none rows) apart.1)
left_apart place (row ∷ rows) (now.AsItWas ∷ said) keep apart =
    (left_from row (suc place) rows said keep.1 apart.0, left_apart (suc place) rows said keep.1 apart.1)
left_apart place (row ∷ rows) (now.Gone ∷ said) keep apart = left_apart (suc place) rows said keep.1 apart.1
left_apart place (row ∷ rows) (now.Found entry ∷ said) keep apart = (
  left_from entry (suc place) rows said keep.1
      (each_weaker (AreApart row) (AreApart entry)
      (λ other far stays remains same. far (sym keep.0.1 ∙ stays) remains (sym keep.0.0 ∙ same)) rows apart.0),
  left_apart (suc place) rows said keep.1 apart.1,
)

-- ---- rows of which an imported entry has the URN

-- a row that is to stay was to stay, and no imported entry has its URN
record StaysSo (imported : List Entry) (row : Entry) : Type 0 where
  pub was : row.doomed ≡ false
  pub none : list_any (has_urn row.urn) imported ≡ false

-- a row that is marked keeps its URN
replaced_urn : (imported : List Entry) (row : Entry) → (replaced_row imported row).urn ≡ row.urn
replaced_urn imported row = by (list_any (has_urn row.urn) imported)
  where
    by : (b : Bool) → (if b then record row { doomed = true } else row).urn ≡ row.urn
    by true = refl
    by false = refl

replaced_stays : (imported : List Entry) (row : Entry) → (replaced_row imported row).doomed ≡ false → StaysSo imported row
replaced_stays imported row h = by (list_any (has_urn row.urn) imported) refl h
  where
    by : (b : Bool) → list_any (has_urn row.urn) imported ≡ b → (if b then record row { doomed = true } else row).doomed ≡ false
        → StaysSo imported row
    by true is h = absurd (let e : true ≡ false = h in cc)
    by false is h = record { was = h; none = is }

-- rows that are apart stay so where some are marked
replaced_apart : (imported : List Entry) (one other : Entry) → AreApart one other
    → AreApart (replaced_row imported one) (replaced_row imported other)
replaced_apart imported one other apart = λ stays remains same.
    apart (replaced_stays imported one stays).was (replaced_stays imported other remains).was
    (sym (replaced_urn imported one) ∙ same ∙ replaced_urn imported other)

-- a URN that no row has is not that of any
none_has : (urn : List ℕ) (rows : List Entry) → list_any (has_urn urn) rows ≡ false → Each (λ (row : Entry). urn ≢ row.urn) rows
none_has urn [] h = tt
none_has urn (row ∷ rows) h = by (has_urn urn row) refl h (none_has urn rows)
  where
    by : (b : Bool) → has_urn urn row ≡ b → (b || list_any (has_urn urn) rows) ≡ false
        → (list_any (has_urn urn) rows ≡ false → Each (λ (it : Entry). urn ≢ it.urn) rows) → Each (λ (it : Entry). urn ≢ it.urn) (row ∷ rows)
    by true is h rest = absurd (let e : true ≡ false = h in cc)
    by false is h rest = (
      λ same. absurd (let e : true ≡ false = sym ((bytes_eq-Decides row.urn urn).1 (sym same)) ∙ is in cc),
      rest h,
    )

-- a row is apart from what is imported
imported_from : (base imported : List Entry) (row : Entry) → ApartFrom (replaced_row imported row) (imported_left base imported)
imported_from base imported row =
    each_map (λ (entry : Entry). record { place = length base; row = entry }) (λ (left : Left). AreApart (replaced_row imported row) left.row)
    imported (each_late _ imported (λ stays. each_weaker (λ (entry : Entry). row.urn ≢ entry.urn)
    (λ (entry : Entry). (entry.doomed ≡ false) → (replaced_row imported row).urn ≢ entry.urn)
    (λ entry far remains same. far (sym (replaced_urn imported row) ∙ same)) imported
    (none_has row.urn imported (replaced_stays imported row stays).none)))
  where
    -- what holds of each under a condition
    each_late : (A : Type 0) (rows : List Entry) → (A → Each (λ (entry : Entry). (entry.doomed ≡ false) → (replaced_row imported row).urn ≢ entry.urn) rows)
        → Each (λ (entry : Entry). A → (entry.doomed ≡ false) → (replaced_row imported row).urn ≢ entry.urn) rows
    each_late A [] h = tt
    each_late A (entry ∷ rows) h = (λ a. (h a).0, each_late A rows (λ a. (h a).1))

module _ (base : List Entry) (said : List RowNow) (imported : List Entry) (keep : KeepEach base said)
    (apart : Pairwise AreApart base) (others : Pairwise AreApart imported) where
  all_apart : Pairwise LeftApart (all_left base said imported)
  all_apart = pairs-append LeftApart (map (replaced_left imported) (rows_left 0 base said)) (imported_left base imported)
      (pairs_map (replaced_left imported) LeftApart (rows_left 0 base said)
      (pairs-weaker LeftApart (λ one other. LeftApart (replaced_left imported one) (replaced_left imported other))
      (λ one other far. replaced_apart imported one.row other.row far) (rows_left 0 base said) (left_apart 0 base said keep apart)))
      (pairs_map _ LeftApart imported others)
      (each_map (replaced_left imported) (λ (one : Left). Each (LeftApart one) (imported_left base imported)) (rows_left 0 base said)
      (each_is (rows_left 0 base said)))
    where
      each_is : (lefts : List Left) → Each (λ (one : Left). Each (LeftApart (replaced_left imported one)) (imported_left base imported)) lefts
      each_is [] = tt
      each_is (one ∷ lefts) = (imported_from base imported one.row, each_is lefts)

  -- the entries after a refresh are sound
  pruned_sound : IsSound (pruned base said imported)
  pruned_sound = sound-from (pruned base said imported) (pruned_back base [] (all_left base said imported) refers-none)
      (pairs-all AreApart (pruned base said imported) (pruned_apart base [] (all_left base said imported) tt all_apart tt))

-- the state of every orderly history of a run that reads everything anew is sound
pub anew-sound : (run : Fixed) (history : List Event) → is_refresh run.mode ≡ true
    → KeepsApart (rows_of run) → IsOrderly run history → IsSound (state_of run history).entries
anew-sound run history anew apart orderly =
    let known : Known = known_of run history in
    let live : is_refresh known.run.mode ≡ true = ap (λ (fixed : Fixed). is_refresh fixed.mode) (run_of run history) ∙ anew in
    subst (λ (b : Bool). IsSound (if b then refreshed_entries known else new_entries known ++ old_entries known)) (sym live)
    (pruned_sound (rows_of known.run) (rows_read known) (imported_entries known) (reads_keep known 0 (rows_of known.run))
    (pairs_from AreApart (rows_of known.run) (subst (λ (fixed : Fixed). KeepsApart (rows_of fixed)) (sym (run_of run history)) apart))
    (imported-apart run history orderly))
