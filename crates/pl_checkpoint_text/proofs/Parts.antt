-- What stands under a key tells the field that it was written for.
use Rattle.std.proofs.Common.{◌≡◌, ℕ, Bool, true, false, bytes_eq, if◌then◌else◌, List, [], ◌∷◌, map, Option, Some, None, option_map, IfSome, Less, Greater, codes, refl, sym, ap, ap₂, ◌∙◌}
use Rattle.std.proofs.lemmas.Bool.{and_parts}
use Rattle.std.specs.Cmp.Lexicographic.{slice_cmp}
use Rattle.std.specs.List.{list_all}
use Rattle.std.specs.Ordering.{nat_cmp}
use Rattle.pl_json.proofs.ValueTells.{text_tells_fields}
use Rattle.pl_json.specs.Fits.{FieldsFit}
use Rattle.pl_json.specs.Spelled.{spelled_fields}
use Rattle.pl_value.proofs.Rising.{reversed, less_from}
use Rattle.pl_value.specs.IsValue.{AreFields}
use Rattle.pl_value.specs.Keys.{are_rising, is_below, keys_of}
use Rattle.pl_value.specs.declared.value.Value.{Value}
use Rattle.pl_state.specs.declared.pending.PendingKind.{PendingKind}
use Rattle.pl_state.specs.declared.pending.PendingKind.TheVariants.{Creating, Updating, Deleting, Reading, Importing}
use Rattle.pl_reference.specs.declared.reference.ProviderRef.{ProviderRef}
use Rattle.pl_reference.specs.Reference.{reference_in}
use Rattle.serde_json.specs.Data.{Data, string, Members, no_members, member, put}
use Rattle.serde_json.specs.View.{items_of}
use Rattle.serde_json.specs.Written.{compact_text}
use Rattle.pl_checkpoint_text.specs.Formed.{reads_back}
use Rattle.pl_reference.specs.Reference.{reference_text}
use Rattle.pl_json.specs.Objects.{with_fields, flag_data, text_data, unless_empty, texts_data}
use Rattle.pl_checkpoint_text.specs.Spelled.{property_field, properties_data, kind_word}

pub same_flag : (one other : Bool) → flag_data one ≡ flag_data other → one ≡ other
same_flag true true same = refl
same_flag true false same = cc
same_flag false true same = cc
same_flag false false same = refl

pub same_text : (one other : Option (List ℕ)) → text_data one ≡ text_data other → one ≡ other
same_text None None same = refl
same_text None (Some b) same = cc
same_text (Some a) None same = cc
same_text (Some a) (Some b) same = cc

pub same_list : {X : Type 0} (one other : List X) (d e : Data) → unless_empty one d ≡ unless_empty other e → (d ≡ e → one ≡ other) → one ≡ other
same_list [] [] d e same tells = refl
same_list [] (b ∷ others) d e same tells = cc
same_list (a ∷ more) [] d e same tells = cc
same_list (a ∷ more) (b ∷ others) d e same tells = tells cc

same_items : (one other : List (List ℕ)) → items_of (map string one) ≡ items_of (map string other) → one ≡ other
same_items [] [] same = refl
same_items [] (b ∷ others) same = cc
same_items (a ∷ more) [] same = cc
same_items (a ∷ more) (b ∷ others) same = let first : a ≡ b = cc in
    let later : more ≡ others = same_items more others cc in
    ap₂ (λ x xs. x ∷ xs) first later

same_array : (one other : List (List ℕ)) → texts_data one ≡ texts_data other → one ≡ other
same_array one other same = same_items one other cc

pub same_texts : (one other : List (List ℕ)) → unless_empty one (texts_data one) ≡ unless_empty other (texts_data other) → one ≡ other
same_texts one other same = same_list one other _ _ same (same_array one other)

pub same_values : (one other : List (List ℕ × Value)) → AreFields one → AreFields other → FieldsFit one → FieldsFit other
    → unless_empty one (spelled_fields one) ≡ unless_empty other (spelled_fields other) → one ≡ other
same_values one other a b c d same = same_list one other _ _ same (λ equal. text_tells_fields one other a b c d (ap compact_text equal))

-- ---- the URNs of properties

abbrev pub Pairs : Type 0
Pairs = List (List ℕ × List (List ℕ))

abbrev pub in_order : Pairs → Members
in_order [] = no_members
in_order (pair ∷ more) = member pair.0 (texts_data pair.1) (in_order more)

-- fields with keys above the first one go behind it
behind : (pairs : Pairs) (key : List ℕ) (value : Data) (ms : Members) → list_all (is_below key) (keys_of pairs) ≡ true
    → with_fields (map property_field pairs) (member key value ms) ≡ member key value (with_fields (map property_field pairs) ms)
behind [] key value ms above = refl
behind (pair ∷ more) key value ms above =
    let parts = and_parts (is_below key pair.0) (list_all (is_below key) (keys_of more)) above in
    let greater : slice_cmp nat_cmp pair.0 key ≡ Greater = reversed key pair.0 Less (less_from _ parts.0) in
    rw (with_fields, greater) (behind more key value (put pair.0 (texts_data pair.1) ms) parts.1)

pub rising_in_order : (pairs : Pairs) → are_rising (keys_of pairs) ≡ true → with_fields (map property_field pairs) no_members ≡ in_order pairs
rising_in_order [] rising = refl
rising_in_order (pair ∷ more) rising =
    let parts = and_parts (list_all (is_below pair.0) (keys_of more)) (are_rising (keys_of more)) rising in
    behind more pair.0 (texts_data pair.1) no_members parts.0 ∙ ap (member pair.0 (texts_data pair.1)) (rising_in_order more parts.1)

same_pairs : (one other : Pairs) → in_order one ≡ in_order other → one ≡ other
same_pairs [] [] same = refl
same_pairs [] (b ∷ others) same = cc
same_pairs (a ∷ more) [] same = cc
same_pairs (a ∷ more) (b ∷ others) same =
    let key : a.0 ≡ b.0 = cc in
    let urns : a.1 ≡ b.1 = same_array a.1 b.1 cc in
    let pair : a ≡ b = ap₂ (λ k v. (k, v)) key urns in
    ap₂ (λ x xs. x ∷ xs) pair (same_pairs more others cc)

pub same_properties : (one other : Pairs) → are_rising (keys_of one) ≡ true → are_rising (keys_of other) ≡ true
    → unless_empty one (properties_data one) ≡ unless_empty other (properties_data other) → one ≡ other
same_properties one other rising rising' same = same_list one other _ _ same (λ equal.
    let ms : with_fields (map property_field one) no_members ≡ with_fields (map property_field other) no_members = cc in
    same_pairs one other (sym (rising_in_order one rising) ∙ ms ∙ rising_in_order other rising'))

-- ---- provider references, and the words of operations

same_ref : (one other : ProviderRef) → reads_back one → reads_back other → reference_text one ≡ reference_text other → one ≡ other
same_ref one other back back' same =
    let read : ◌≡◌ {A = Option (List ℕ × List ℕ)} (Some (one.urn, one.id)) (Some (other.urn, other.id)) = sym back ∙ ap reference_in same ∙ back' in
    let pair : ◌≡◌ {A = List ℕ × List ℕ} (one.urn, one.id) (other.urn, other.id) = cc in
    ap made pair
  where
    made : List ℕ × List ℕ → ProviderRef
    made p = record { urn = p.0; id = p.1 }

pub same_provider : (one other : Option ProviderRef) → IfSome one reads_back → IfSome other reads_back
    → text_data (option_map reference_text one) ≡ text_data (option_map reference_text other) → one ≡ other
same_provider None None back back' same = refl
same_provider None (Some b) back back' same = cc
same_provider (Some a) None back back' same = cc
same_provider (Some a) (Some b) back back' same = ap Some (same_ref a b back back' cc)

-- the kind that a word is for
kind_of : List ℕ → PendingKind
kind_of word =
    if bytes_eq word (codes "creating") then Creating
    else (if bytes_eq word (codes "updating") then Updating
    else (if bytes_eq word (codes "deleting") then Deleting
    else (if bytes_eq word (codes "reading") then Reading
    else Importing)))

kind_of-word : (kind : PendingKind) → kind_of (kind_word kind) ≡ kind
unfolding kind_of
kind_of-word Creating = refl
kind_of-word Updating = refl
kind_of-word Deleting = refl
kind_of-word Reading = refl
kind_of-word Importing = refl

pub same_kind : (one other : PendingKind) → kind_word one ≡ kind_word other → one ≡ other
same_kind one other same = sym (kind_of-word one) ∙ ap kind_of same ∙ kind_of-word other
