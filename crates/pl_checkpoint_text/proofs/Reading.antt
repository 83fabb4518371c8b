-- Data in memory, and the fields that are read from a text.
use Rattle.std.proofs.Common.{◌≡◌, ℕ, zero, suc, ◌<◌, ◌+◌, Bool, true, false, ◌||◌, not, List, [], ◌∷◌, ◌++◌, length, take, get_or, Option, Some, None, option_map, is_some, unwrap_or, codes, refl, sym, ap, ◌∙◌, arith}
use Rattle.std.proofs.lemmas.List.{take_more}
use Rattle.serde_json.proofs.Views.{Entry}
use Rattle.serde_json.specs.Data.{Data, object, Members, no_members, put}
use Rattle.serde_json.specs.Find.{get_member}
use Rattle.serde_json.specs.View.{view, items_view, members_view}
use Rattle.serde_json.specs.Written.{has_float, items_have_float, members_have_float}
use Rattle.serde_json.specs.declared.value.Value.{Value}
use Rattle.std.proofs.lemmas.Bool.{or_right}
use Rattle.pl_checkpoint_text.specs.Spelled.{whole_members, with_manifest}

-- ---- floats in lists

-- an element with a float
pub items_have_float-at : (values : List Value) (place : ℕ) (other : Value) → place < length values → has_float (view (get_or values place other)) ≡ true
    → items_have_float (items_view values) ≡ true
items_have_float-at [] place other within has = absurd (omega arith)
items_have_float-at (value ∷ more) zero other within has = rw has refl
items_have_float-at (value ∷ more) (suc place) other within has = or_right _ _ (items_have_float-at more place other (omega arith) has)

items_have_float-push : (values : List Value) (value : Value) → items_have_float (items_view values) ≡ false → has_float (view value) ≡ false
    → items_have_float (items_view (values ++ value ∷ [])) ≡ false
items_have_float-push [] value none own = rw own refl
items_have_float-push (first ∷ more) value none own = both (has_float (view first)) none (λ later. items_have_float-push more value later own)
  where
    both : (a : Bool) {b c : Bool} → (a || b) ≡ false → (b ≡ false → c ≡ false) → (a || c) ≡ false
    both true h next = absurd (cc)
    both false h next = next h

-- one element more
pub items_have_float-take : (values : List Value) (place : ℕ) (other : Value) → place < length values → items_have_float (items_view (take place values)) ≡ false
    → has_float (view (get_or values place other)) ≡ false → items_have_float (items_view (take (place + 1) values)) ≡ false
items_have_float-take values place other within none own =
    ap (λ vs. items_have_float (items_view vs)) (take_more values place other within) ∙ items_have_float-push (take place values) (get_or values place other) none own

-- a member with a float
pub members_have_float-from : (done : List Entry) (entry : Entry) (left : List Entry) → has_float (view entry.1) ≡ true
    → members_have_float (members_view (done ++ entry ∷ left)) ≡ true
members_have_float-from [] entry left has = rw has refl
members_have_float-from (first ∷ done) entry left has = or_right _ _ (members_have_float-from done entry left has)

-- one member more
pub members_have_float-push : (done : List Entry) (entry : Entry) → members_have_float (members_view done) ≡ false → has_float (view entry.1) ≡ false
    → members_have_float (members_view (done ++ entry ∷ [])) ≡ false
members_have_float-push [] entry none own = rw own refl
members_have_float-push (first ∷ done) entry none own = both (has_float (view first.1)) none (λ later. members_have_float-push done entry later own)
  where
    both : (a : Bool) {b c : Bool} → (a || b) ≡ false → (b ≡ false → c ≡ false) → (a || c) ≡ false
    both true h next = absurd (cc)
    both false h next = next h

-- ---- members that may be missing

-- no members are whole
pub whole_members-unwrap_or : (ms : Option Members) → whole_members (Some (unwrap_or ms no_members)) ≡ whole_members ms
whole_members-unwrap_or None = refl
whole_members-unwrap_or (Some ms) = refl

-- ---- the manifest

pub with_manifest-none : (ms : Members) (found : Option Data) → found ≡ get_member (codes "manifest") ms → is_some found ≡ false
    → with_manifest ms ≡ put (codes "manifest") (object no_members) ms
with_manifest-none ms found is none = rw (sym is, none) refl

pub with_manifest-some : (ms : Members) (found : Option Data) → found ≡ get_member (codes "manifest") ms → is_some found ≡ true
    → with_manifest ms ≡ ms
with_manifest-some ms found is some = rw (sym is, some) refl

pub is_some-none : {A B : Type 0} (f : A → B) (found : Option A) (none : Bool) → is_some found ≡ not none → none ≡ true → is_some (option_map f found) ≡ false
is_some-none f None none is h = refl
is_some-none f (Some a) none is h = cc

pub is_some-some : {A B : Type 0} (f : A → B) (found : Option A) (none : Bool) → is_some found ≡ not none → none ≡ false → is_some (option_map f found) ≡ true
is_some-some f None none is h = cc
is_some-some f (Some a) none is h = refl
