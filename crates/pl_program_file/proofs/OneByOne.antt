-- What is read or filled of elements one after another.
use Rattle.std.proofs.Common.{◌≡◌, ℕ, ◌+◌, ◌<◌, Bool, List, [], ◌∷◌, ◌++◌, take, drop, length, get_or, Option, Some, Result, Ok, Err, refl, sym, ap, ◌∙◌, append_assoc, add-one}
use Rattle.std.proofs.lemmas.List.{map-append, take_more}
use Rattle.std.proofs.Math.Seq.{drop-cons}
use Rattle.pl_value.proofs.FieldParts.{Pairs}
use Rattle.pl_value.specs.Keys.{keys_of}
use Rattle.pl_value.specs.declared.value.Value.{Value}
use Rattle.serde_json.specs.Data.{Data}
use Rattle.serde_json.specs.View.{view, items_view}
use Rattle.serde_json.specs.declared.value.Value as json
use Rattle.pl_members.specs.Field.{each_item}
use Rattle.pl_members.specs.Field as field
use Rattle.pl_members.proofs.Items.{after, after-next}
use Rattle.pl_program_file.specs.Filled.{before, filled, filled_members, filled_values, made_of, under}
use Rattle.pl_program_file.specs.declared.fault.Unfilled.{Unfilled}
use Rattle.pl_program_file.specs.declared.known.Known.{Known}

-- one more element is read
pub read_next : {X : Type 0} (read : Data → Option X) (items : List json.Value) (i : ℕ) (d : json.Value) (made : List X) (one : X) → i < length items
    → read (view (get_or items i d)) ≡ Some one
    → after made (each_item read (items_view (drop i items))) ≡ after (made ++ one ∷ []) (each_item read (items_view (drop (i + 1) items)))
read_next read items i d made one here is =
    let next : drop i items ≡ get_or items i d ∷ drop (i + 1) items = rw (add-one, drop-cons items i d) in
    ap (λ left. after made (each_item read (items_view left))) next
    ∙ ap (λ told. after made (field.before told (each_item read (items_view (drop (i + 1) items))))) is
    ∙ after-next made one (each_item read (items_view (drop (i + 1) items)))

-- these, and then what the others are filled with
abbrev pub and_then : {X : Type 0} → List X → Result (List X) Unfilled → Result (List X) Unfilled
and_then made others = made_of (λ more. made ++ more) others

and_then-before : {X : Type 0} (made : List X) (one : X) (others : Result (List X) Unfilled) → and_then made (before (Ok one) others) ≡ and_then (made ++ one ∷ []) others
and_then-before made one (Ok more) = ap Ok (sym (append_assoc made (one ∷ []) more))
and_then-before made one (Err why) = refl

next_fields : (fields : Pairs) (i : ℕ) (d : List ℕ × Value) → i < length fields → drop i fields ≡ get_or fields i d ∷ drop (i + 1) fields
next_fields fields i d here = rw (add-one, drop-cons fields i d)

module _ (known : List Known) (preview : Bool) where
  -- one more field is filled
  pub members_next : (levels : ℕ) (fields : Pairs) (i : ℕ) (d : List ℕ × Value) (made : Pairs) (one : Value) → i < length fields
      → filled known preview (get_or fields i d).1 (under (get_or fields i d).0 levels) ≡ Ok one
      → and_then made (filled_members known preview levels (drop i fields))
      ≡ and_then (made ++ ((get_or fields i d).0, one) ∷ []) (filled_members known preview levels (drop (i + 1) fields))
  members_next levels fields i d made one here is =
      ap (λ left. and_then made (filled_members known preview levels left)) (next_fields fields i d here)
      ∙ ap (λ told. and_then made (before (made_of (λ (found : Value). ((get_or fields i d).0, found)) told) (filled_members known preview levels (drop (i + 1) fields)))) is
      ∙ and_then-before made ((get_or fields i d).0, one) (filled_members known preview levels (drop (i + 1) fields))

-- the keys with one more
pub keys_next : (made fields : Pairs) (i : ℕ) (d : List ℕ × Value) (one : Value) → i < length fields → keys_of made ≡ keys_of (take i fields)
    → keys_of (made ++ ((get_or fields i d).0, one) ∷ []) ≡ keys_of (take (i + 1) fields)
keys_next made fields i d one here same =
    map-append (λ (field : List ℕ × Value). field.0) made (((get_or fields i d).0, one) ∷ [])
    ∙ ap (λ keys. keys ++ (get_or fields i d).0 ∷ []) same
    ∙ sym (map-append (λ (field : List ℕ × Value). field.0) (take i fields) (get_or fields i d ∷ []))
    ∙ ap keys_of (sym (take_more fields i d here))
