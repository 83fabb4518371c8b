-- What a search by URN finds.
use Rattle.std.proofs.Common.{◌≡◌, ℕ, Bool, true, false, List, [], ◌∷◌, Option, Some, None, option_map, refl, sym, ◌∙◌, ap, find}
use Rattle.std.proofs.lemmas.Slice.Eq.{bytes_eq-Decides}
use Rattle.std.specs.List.{list_any}
use Rattle.std.specs.Str.{bytes_eq}
use Rattle.pl_state.specs.declared.entry.Entry.{Entry}
use Rattle.pl_components.specs.Entries.{has_entry}
use denote.Ref.{Bor}

pub find-passes : {X : Type 0} (p : X → Bool) (xs : List X) (x : X) → find p xs ≡ Some x → p x ≡ true
find-passes p [] x h = cc
find-passes p (y ∷ ys) x h = by_case (p y) refl (find-passes p ys x)
  where
    by_case : (b : Bool) → p y ≡ b → (find p ys ≡ Some x → p x ≡ true) → p x ≡ true
    by_case true is later = let e : Some y ≡ Some x = sym (rw is refl) ∙ h in let same : y ≡ x = cc in ap p (sym same) ∙ is
    by_case false is later = later (sym (rw is refl) ∙ h)

pub list_any-found : {X : Type 0} (p : X → Bool) (xs : List X) (x : X) → find p xs ≡ Some x → list_any p xs ≡ true
list_any-found p [] x h = cc
list_any-found p (y ∷ ys) x h = by_case (p y) refl (list_any-found p ys x)
  where
    by_case : (b : Bool) → p y ≡ b → (find p ys ≡ Some x → list_any p ys ≡ true) → list_any p (y ∷ ys) ≡ true
    by_case true is later = rw is refl
    by_case false is later = rw is (later (rw is at h))

pub list_any-missed : {X : Type 0} (p : X → Bool) (xs : List X) → find p xs ≡ None → list_any p xs ≡ false
list_any-missed p [] h = refl
list_any-missed p (y ∷ ys) h = by_case (p y) refl (list_any-missed p ys)
  where
    by_case : (b : Bool) → p y ≡ b → (find p ys ≡ None → list_any p ys ≡ false) → list_any p (y ∷ ys) ≡ false
    by_case true is later = absurd (let e = rw is at h in cc)
    by_case false is later = rw is (later (rw is at h))

-- an entry that was found by its URN has it
pub found_urn : (entries : List Entry) (text : List ℕ) (found : Option (Bor Entry)) (entry : Bor Entry)
    → option_map (λ (e : Bor Entry). e.now) found ≡ find (λ (e : Entry). bytes_eq e.urn text) entries → found ≡ Some entry
    → entry.now.urn ≡ text
found_urn entries text found entry told is =
    let e : find (λ (e : Entry). bytes_eq e.urn text) entries ≡ Some entry.now = sym told ∙ ap (λ r. option_map (λ (e : Bor Entry). e.now) r) is in
    (bytes_eq-Decides entry.now.urn text).0 (find-passes (λ (e : Entry). bytes_eq e.urn text) entries entry.now e)

pub found_stands : (entries : List Entry) (text : List ℕ) (found : Option (Bor Entry)) (entry : Bor Entry)
    → option_map (λ (e : Bor Entry). e.now) found ≡ find (λ (e : Entry). bytes_eq e.urn text) entries → found ≡ Some entry
    → has_entry entries text ≡ true
found_stands entries text found entry told is =
    list_any-found (λ (e : Entry). bytes_eq e.urn text) entries entry.now (sym told ∙ ap (λ r. option_map (λ (e : Bor Entry). e.now) r) is)

pub missed : (entries : List Entry) (text : List ℕ) (found : Option (Bor Entry))
    → option_map (λ (e : Bor Entry). e.now) found ≡ find (λ (e : Entry). bytes_eq e.urn text) entries → found ≡ None
    → has_entry entries text ≡ false
missed entries text found told is =
    list_any-missed (λ (e : Entry). bytes_eq e.urn text) entries (sym told ∙ ap (λ r. option_map (λ (e : Bor Entry). e.now) r) is)
