-- What the stamps tell over each call.
use Rattle.std.proofs.Common.{◌≡◌, ℕ, zero, suc, ◌+◌, ◌<◌, ◌≤◌, ◌⊎◌, inl, inr, Bool, true, false, cond, ◌||◌, Option, None, Some, option_map, option_and_then, List, [], ◌∷◌, ◌++◌, map, slice_get, refl, ap, sym, subst, ◌∙◌, arith}
use Rattle.std.specs.List.{list_any}
use Rattle.pl_lemmas.proofs.Truth.{neither_left, neither_right}
use Rattle.pl_reference.specs.declared.reference.ProviderRef.{ProviderRef}
use Rattle.pl_lemmas.specs.Words.{some_passes}
use Rattle.pl_state.specs.declared.entry.Entry.{Entry}
use Rattle.pl_state.specs.declared.pending.Pending.{Pending}
use Rattle.pl_value.specs.declared.value.Value.{Value}
use Rattle.pl_snap.specs.Calls.{is_goal, with_entry, with_opened, with_outputs, with_replaced, with_rows, with_told, without_opened, without_pending, without_row}
use Rattle.pl_snap.specs.declared.fresh.Fresh.{Fresh}
use Rattle.pl_snap.specs.Lists.{changed_first, without_first}
use Rattle.pl_snap.specs.Model.{Merged, Row, Waiting}
use Rattle.pl_snap.specs.Rows.{claim_taken, claimed_row, doomed_row, is_row, is_waiting, replaced_row, set_rows, turned_if, turned_row, turned_rows, turning_of}
use Rattle.pl_snap.specs.Stamps.{Follows, KeepsBelow, stamped_entries, stamped_pending}
use Rattle.pl_turning.specs.Turning.{Turning, is_urn, mentions, turned, turned_entry, turned_pairs, turned_reference}

-- ---- an entry that does not have the URN is not changed

turned-other : (turning : Turning) (urn : List ℕ) → is_urn turning.old urn ≡ false → turned turning urn ≡ urn
turned-other turning urn e = ap (λ b. cond b turning.new urn) e

option-other : (turning : Turning) (urn : Option (List ℕ)) → some_passes (is_urn turning.old) urn ≡ false → option_map (turned turning) urn ≡ urn
option-other turning None e = refl
option-other turning (Some urn) e = ap Some (turned-other turning urn e)

reference-other : (turning : Turning) (reference : Option ProviderRef) → some_passes (λ one. is_urn turning.old one.urn) reference ≡ false → option_map (turned_reference turning) reference ≡ reference
reference-other turning None e = refl
reference-other turning (Some reference) e = ap (λ (urn : List ℕ). Some (record reference { urn = urn })) (turned-other turning reference.urn e)

all-other : (turning : Turning) (urns : List (List ℕ)) → list_any (is_urn turning.old) urns ≡ false → map (turned turning) urns ≡ urns
all-other turning [] e = refl
all-other turning (urn ∷ urns) e =
    let here : turned turning urn ≡ urn = turned-other turning urn (neither_left (is_urn turning.old urn) (list_any (is_urn turning.old) urns) e) in
    let rest : map (turned turning) urns ≡ urns = all-other turning urns (neither_right (is_urn turning.old urn) (list_any (is_urn turning.old) urns) e) in
    λ i. here i ∷ rest i

pairs-other : (turning : Turning) (pairs : List (List ℕ × List (List ℕ))) → list_any (λ pair. list_any (is_urn turning.old) pair.1) pairs ≡ false → turned_pairs turning pairs ≡ pairs
pairs-other turning [] e = refl
pairs-other turning (pair ∷ pairs) e =
    let any : List ℕ × List (List ℕ) → Bool = λ one. list_any (is_urn turning.old) one.1 in
    let here : map (turned turning) pair.1 ≡ pair.1 = all-other turning pair.1 (neither_left (any pair) (list_any any pairs) e) in
    let rest : turned_pairs turning pairs ≡ pairs = pairs-other turning pairs (neither_right (any pair) (list_any any pairs) e) in
    λ i. (pair.0, here i) ∷ rest i

-- six tests none of which passes
record Apart (a b c d f g : Bool) : Type 0 where
  own : a ≡ false
  parent : b ≡ false
  provider : c ≡ false
  dependencies : d ≡ false
  properties : f ≡ false
  deleter : g ≡ false

apart : (a b c d f g : Bool) → (a || b || c || d || f || g) ≡ false → Apart a b c d f g
apart true b c d f g e = absurd (cc)
apart false true c d f g e = absurd (cc)
apart false false true d f g e = absurd (cc)
apart false false false true f g e = absurd (cc)
apart false false false false true g e = absurd (cc)
apart false false false false false true e = absurd (cc)
apart false false false false false false e = record { own = refl; parent = refl; provider = refl; dependencies = refl; properties = refl; deleter = refl }

pub entry-other : (turning : Turning) (entry : Entry) → mentions turning.old entry ≡ false → turned_entry entry turning ≡ entry
entry-other turning entry e =
    let old = turning.old in
    let a = is_urn old entry.urn in
    let b = some_passes (is_urn old) entry.parent in
    let c = some_passes (λ (one : ProviderRef). is_urn old one.urn) entry.provider in
    let d = list_any (is_urn old) entry.dependencies in
    let f = list_any (λ (pair : List ℕ × List (List ℕ)). list_any (is_urn old) pair.1) entry.property_dependencies in
    let g = some_passes (is_urn old) entry.deleted_with in
    let parts = apart a b c d f g e in
    let urn = turned-other turning entry.urn parts.own in
    let parent = option-other turning entry.parent parts.parent in
    let provider = reference-other turning entry.provider parts.provider in
    let dependencies = all-other turning entry.dependencies parts.dependencies in
    let properties = pairs-other turning entry.property_dependencies parts.properties in
    let deleter = option-other turning entry.deleted_with parts.deleter in
    λ i. record entry {
      urn = urn i;
      parent = parent i;
      provider = provider i;
      dependencies = dependencies i;
      property_dependencies = properties i;
      deleted_with = deleter i;
    }

-- ---- things with stamps

abbrev StandsIn : {Z : Type 0} → List Z → Z → Type 0
StandsIn [] z = ⊥
StandsIn (y ∷ ys) z = (y ≡ z) ⊎ StandsIn ys z

stands_at : {Z : Type 0} (zs : List Z) (at : ℕ) (z : Z) → slice_get zs at ≡ Some z → StandsIn zs z
stands_at [] at z e = absurd (cc)
stands_at (y ∷ ys) zero z e = inl (cc)
stands_at (y ∷ ys) (suc at) z e = inr (stands_at ys at z e)

place_of_one : {Z : Type 0} (zs : List Z) (z : Z) → StandsIn zs z → (at : ℕ) × (slice_get zs at ≡ Some z)
place_of_one [] z h = absurd h
place_of_one (y ∷ ys) z (inl e) = (0, ap Some e)
place_of_one (y ∷ ys) z (inr h) = let found = place_of_one ys z h in (suc found.0, found.1)

abbrev Keeps : {X : Type 0} → ℕ → List (ℕ × X) → List (ℕ × X) → Type 0
Keeps {X} next old new = (z : ℕ × X) → StandsIn new z → z.0 < next → StandsIn old z

keeps_below : {X : Type 0} (next : ℕ) (old new : List (ℕ × X)) → Keeps next old new → KeepsBelow next old new
keeps_below next old new keeps stamp x bears before =
    place_of_one old (stamp, x) (keeps (stamp, x) (stands_at new bears.0 (stamp, x) bears.1) before)

keeps-same : {X : Type 0} (next : ℕ) (xs : List (ℕ × X)) → Keeps next xs xs
keeps-same next xs z h before = h

keeps-then : {X : Type 0} (next : ℕ) (a b c : List (ℕ × X)) → Keeps next a b → Keeps next b c → Keeps next a c
keeps-then next a b c first second z h before = first z (second z h before) before

-- a thing that stood there before, or has a later stamp, and the others
keeps-cons : {X : Type 0} (next : ℕ) (x y : ℕ × X) (xs ys : List (ℕ × X)) → ((y.0 < next → ⊥) ⊎ (y ≡ x)) → Keeps next xs ys → Keeps next (x ∷ xs) (y ∷ ys)
keeps-cons next x y xs ys (inl later) rest z (inl e) before = absurd (later (subst (λ (one : ℕ × _). one.0 < next) (sym e) before))
keeps-cons next x y xs ys (inr same) rest z (inl e) before = inl (sym same ∙ e)
keeps-cons next x y xs ys first rest z (inr h) before = inr (rest z h before)

keeps-less : {X : Type 0} (next : ℕ) (x : ℕ × X) (xs ys : List (ℕ × X)) → Keeps next xs ys → Keeps next (x ∷ xs) ys
keeps-less next x xs ys rest z h before = inr (rest z h before)

stands-left : {Z : Type 0} (xs ys : List Z) (z : Z) → StandsIn xs z → StandsIn (xs ++ ys) z
stands-left [] ys z h = absurd h
stands-left (x ∷ xs) ys z (inl e) = inl e
stands-left (x ∷ xs) ys z (inr h) = inr (stands-left xs ys z h)

stands-right : {Z : Type 0} (xs ys : List Z) (z : Z) → StandsIn ys z → StandsIn (xs ++ ys) z
stands-right [] ys z h = h
stands-right (x ∷ xs) ys z h = inr (stands-right xs ys z h)

stands-cases : {Z : Type 0} (xs ys : List Z) (z : Z) → StandsIn (xs ++ ys) z → StandsIn xs z ⊎ StandsIn ys z
stands-cases [] ys z h = inr h
stands-cases (x ∷ xs) ys z (inl e) = inl (inl e)
stands-cases (x ∷ xs) ys z (inr h) = elim (stands-cases xs ys z h) [
  | inl a ↦ inl (inr a)
  | inr b ↦ inr b
]

keeps-both : {X : Type 0} (next : ℕ) (a b c d : List (ℕ × X)) → Keeps next a b → Keeps next c d → Keeps next (a ++ c) (b ++ d)
keeps-both next a b c d first second z h before = elim (stands-cases b d z h) [
  | inl x ↦ stands-left a c z (first z x before)
  | inr y ↦ stands-right a c z (second z y before)
]

keeps-without_step : {X W : Type 0} (next : ℕ) (g : X → ℕ × W) (b : Bool) (x : X) (less xs : List X) → Keeps next (map g xs) (map g less) → Keeps next (g x ∷ map g xs) (map g (cond b xs (x ∷ less)))
keeps-without_step next g true x less xs rest = keeps-less next (g x) (map g xs) (map g xs) (keeps-same next (map g xs))
keeps-without_step next g false x less xs rest = keeps-cons next (g x) (g x) (map g xs) (map g less) (inr refl) rest

keeps-without : {X W : Type 0} (next : ℕ) (g : X → ℕ × W) (p : X → Bool) (xs : List X) → Keeps next (map g xs) (map g (without_first p xs))
keeps-without next g p [] = keeps-same next []
keeps-without next g p (x ∷ xs) = keeps-without_step next g (p x) x (without_first p xs) xs (keeps-without next g p xs)

not_before : (next n : ℕ) → next ≤ n → n < next → ⊥
not_before next n late early = omega arith

keeps-changed_step : {X W : Type 0} (next : ℕ) (g : X → ℕ × W) (b : Bool) (x y : X) (other xs : List X) → next ≤ (g y).0 → Keeps next (map g xs) (map g other) → Keeps next (g x ∷ map g xs) (map g (cond b (y ∷ xs) (x ∷ other)))
keeps-changed_step next g true x y other xs late rest = keeps-cons next (g x) (g y) (map g xs) (map g xs) (inl (not_before next (g y).0 late)) (keeps-same next (map g xs))
keeps-changed_step next g false x y other xs late rest = keeps-cons next (g x) (g x) (map g xs) (map g other) (inr refl) rest

keeps-changed : {X W : Type 0} (next : ℕ) (g : X → ℕ × W) (p : X → Bool) (c : X → X) (xs : List X) → ((x : X) → next ≤ (g (c x)).0) → Keeps next (map g xs) (map g (changed_first p c xs))
keeps-changed next g p c [] late = keeps-same next []
keeps-changed next g p c (x ∷ xs) late = keeps-changed_step next g (p x) x (c x) (changed_first p c xs) xs (late x) (keeps-changed next g p c xs late)

keeps-more : {X W : Type 0} (next : ℕ) (g : X → ℕ × W) (xs : List X) (y : X) → next ≤ (g y).0 → Keeps next (map g xs) (map g (xs ++ y ∷ []))
keeps-more next g [] y late z (inl e) before = absurd (not_before next (g y).0 late (subst (λ (one : ℕ × _). one.0 < next) (sym e) before))
keeps-more next g [] y late z (inr h) before = h
keeps-more next g (x ∷ xs) y late z h before = keeps-cons next (g x) (g x) (map g xs) (map g (xs ++ y ∷ [])) (inr refl) (keeps-more next g xs y late) z h before

-- nothing that was there before
keeps-set : (next start : ℕ) (xs : List (ℕ × Entry)) (entries : List Entry) → next ≤ start → Keeps next xs (map (λ row. (row.stamp, row.entry)) (set_rows start entries))
keeps-set next start xs [] late z h before = absurd h
keeps-set next start xs (entry ∷ entries) late z (inl e) before = absurd (not_before next start late (subst (λ (one : ℕ × Entry). one.0 < next) (sym e) before))
keeps-set next start xs (entry ∷ entries) late z (inr h) before = keeps-set next (start + 1) xs entries (omega arith) z h before

abbrev of_row : Row → ℕ × Entry
of_row row = (row.stamp, row.entry)

turned_here : (turning : Turning) (next start : ℕ) (row : Row) (b : Bool) → mentions turning.old row.entry ≡ b → next ≤ start → ((of_row (turned_row turning start row)).0 < next → ⊥) ⊎ (of_row (turned_row turning start row) ≡ of_row row)
turned_here turning next start row true has late =
    inl (λ early. not_before next start late (subst (λ (n : ℕ). n < next) (ap (λ b. cond b start row.stamp) has) early))
turned_here turning next start row false has late =
    inr (λ i. (cond (has i) start row.stamp, entry-other turning row.entry has i))

keeps-turned : (turning : Turning) (next start : ℕ) (rows : List Row) → next ≤ start → Keeps next (map of_row rows) (map of_row (turned_rows turning start rows))
keeps-turned turning next start [] late = keeps-same next []
keeps-turned turning next start (row ∷ rows) late =
    keeps-cons next (of_row row) (of_row (turned_row turning start row)) (map of_row rows) (map of_row (turned_rows turning (start + 1) rows))
    (turned_here turning next start row (mentions turning.old row.entry) refl late) (keeps-turned turning next (start + 1) rows (omega arith))

keeps-turned_if : (turning : Option Turning) (next start : ℕ) (rows : List Row) → next ≤ start → Keeps next (map of_row rows) (map of_row (turned_if turning start rows))
keeps-turned_if None next start rows late = keeps-same next (map of_row rows)
keeps-turned_if (Some turning) next start rows late = keeps-turned turning next start rows late

keeps-taken : (claim : Option ℕ) (marked : Bool) (next stamp : ℕ) (rows : List Row) → next ≤ stamp → Keeps next (map of_row rows) (map of_row (claim_taken claim marked stamp rows))
keeps-taken None marked next stamp rows late = keeps-same next (map of_row rows)
keeps-taken (Some number) true next stamp rows late = keeps-changed next of_row (is_row number) (doomed_row stamp) rows (λ row. late)
keeps-taken (Some number) false next stamp rows late = keeps-without next of_row (is_row number) rows

-- ---- over each call

abbrev of_fresh : Fresh → ℕ × Entry
of_fresh one = (one.stamp, one.entry)

abbrev of_waiting : Waiting → ℕ × Pending
of_waiting one = (one.stamp, one.pending)

-- the entries and the pending operations, part by part
follows : (old new : Merged) → old.next_stamp ≤ new.next_stamp → Keeps old.next_stamp (map of_fresh old.fresh) (map of_fresh new.fresh) → Keeps old.next_stamp (map of_row old.rows) (map of_row new.rows) → Keeps old.next_stamp (map of_waiting old.base_pending) (map of_waiting new.base_pending) → Keeps old.next_stamp (map of_waiting old.own_pending) (map of_waiting new.own_pending) → Follows old new
follows old new rises fresh rows base own = record {
  stamps_do_not_fall = rises;
  same_stamp_same_entry = keeps_below old.next_stamp (stamped_entries old) (stamped_entries new)
      (keeps-both old.next_stamp (map of_fresh old.fresh) (map of_fresh new.fresh) (map of_row old.rows) (map of_row new.rows) fresh rows);
  same_stamp_same_pending = keeps_below old.next_stamp (stamped_pending old) (stamped_pending new)
      (keeps-both old.next_stamp (map of_waiting old.base_pending) (map of_waiting new.base_pending) (map of_waiting old.own_pending) (map of_waiting new.own_pending) base own);
}

pub follows-entry : (goal : ℕ) (entry : Entry) (claim : Option ℕ) (marked : Bool) (merged : Merged) → Follows merged (with_entry goal entry claim marked merged)
follows-entry goal entry claim marked merged =
    let next : ℕ = merged.next_stamp in
    let turning : Option Turning = option_and_then (turning_of entry.urn) (claimed_row claim merged.rows) in
    let rows : List Row = turned_if turning (next + 2) merged.rows in
    follows merged (with_entry goal entry claim marked merged) (omega arith)
    (keeps-more next of_fresh merged.fresh (record { goal = goal; stamp = next; entry = entry }) (omega arith))
    (keeps-then next (map of_row merged.rows) (map of_row rows) (map of_row (claim_taken claim marked (next + 1) rows))
    (keeps-turned_if turning next (next + 2) merged.rows (omega arith)) (keeps-taken claim marked next (next + 1) rows (omega arith)))
    (keeps-same next (map of_waiting merged.base_pending)) (keeps-same next (map of_waiting merged.own_pending))

pub follows-outputs : (goal : ℕ) (outputs : List (List ℕ × Value)) (merged : Merged) → Follows merged (with_outputs goal outputs merged)
follows-outputs goal outputs merged =
    let next : ℕ = merged.next_stamp in
    follows merged (with_outputs goal outputs merged) (omega arith)
    (keeps-changed next of_fresh (is_goal goal) (with_told next outputs) merged.fresh (λ one. omega arith))
    (keeps-same next (map of_row merged.rows)) (keeps-same next (map of_waiting merged.base_pending)) (keeps-same next (map of_waiting merged.own_pending))

pub follows-retired : (number : ℕ) (merged : Merged) → Follows merged (without_row number merged)
follows-retired number merged =
    let next : ℕ = merged.next_stamp in
    follows merged (without_row number merged) (omega arith) (keeps-same next (map of_fresh merged.fresh))
    (keeps-without next of_row (is_row number) merged.rows)
    (keeps-same next (map of_waiting merged.base_pending)) (keeps-same next (map of_waiting merged.own_pending))

pub follows-replaced : (number : ℕ) (merged : Merged) → Follows merged (with_replaced number merged)
follows-replaced number merged =
    let next : ℕ = merged.next_stamp in
    follows merged (with_replaced number merged) (omega arith) (keeps-same next (map of_fresh merged.fresh))
    (keeps-changed next of_row (is_row number) (replaced_row next) merged.rows (λ row. omega arith))
    (keeps-same next (map of_waiting merged.base_pending)) (keeps-same next (map of_waiting merged.own_pending))

pub follows-set : (entries : List Entry) (merged : Merged) → Follows merged (with_rows entries merged)
follows-set entries merged =
    let next : ℕ = merged.next_stamp in
    follows merged (with_rows entries merged) (omega arith) (keeps-same next (map of_fresh merged.fresh))
    (keeps-set next next (map of_row merged.rows) entries (omega arith))
    (keeps-same next (map of_waiting merged.base_pending)) (keeps-same next (map of_waiting merged.own_pending))

pub follows-cleared : (at : ℕ) (merged : Merged) → Follows merged (without_pending at merged)
follows-cleared at merged =
    let next : ℕ = merged.next_stamp in
    follows merged (without_pending at merged) (omega arith) (keeps-same next (map of_fresh merged.fresh)) (keeps-same next (map of_row merged.rows))
    (keeps-without next of_waiting (is_waiting at) merged.base_pending) (keeps-same next (map of_waiting merged.own_pending))

pub follows-opened : (ticket : ℕ) (pending : Pending) (merged : Merged) → Follows merged (with_opened ticket pending merged)
follows-opened ticket pending merged =
    let next : ℕ = merged.next_stamp in
    follows merged (with_opened ticket pending merged) (omega arith) (keeps-same next (map of_fresh merged.fresh)) (keeps-same next (map of_row merged.rows))
    (keeps-same next (map of_waiting merged.base_pending))
    (keeps-more next of_waiting merged.own_pending (record { number = ticket; stamp = next; pending = pending }) (omega arith))

pub follows-closed : (ticket : ℕ) (merged : Merged) → Follows merged (without_opened ticket merged)
follows-closed ticket merged =
    let next : ℕ = merged.next_stamp in
    follows merged (without_opened ticket merged) (omega arith) (keeps-same next (map of_fresh merged.fresh)) (keeps-same next (map of_row merged.rows))
    (keeps-same next (map of_waiting merged.base_pending)) (keeps-without next of_waiting (is_waiting ticket) merged.own_pending)
