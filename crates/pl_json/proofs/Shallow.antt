-- What is read is no deeper than it may be.
use Rattle.std.proofs.Common.{◌≡◌, ℕ, ℤ, zero, suc, ◌+◌, ◌≤◌, Bool, true, false, cond, bytes_eq, List, Option, Some, None, Result, Ok, Err, IfOk, refl, subst, arith}
use Rattle.std.specs.Result.{result_map_both}
use Rattle.pl_value.proofs.Levels.{depth-Object, depth-Null, depth-Flag, depth-Whole, depth-Text, depth-List, depth-Secret, depth-Unknown}
use Rattle.pl_value.specs.Inside.{depth, greatest_depth, greatest_field_depth}
use Rattle.pl_value.specs.Marks.{unknown_text}
use Rattle.pl_value.specs.declared.json.JsonFault.{JsonFault}
use Rattle.pl_value.specs.declared.value.Value.{Value}
use Rattle.pl_value.specs.declared.value.Value.TheVariants as value
use Rattle.serde_json.specs.Data.{Data, null, boolean, number, string, array, object, Items, no_items, item, Members, no_members, member}
use Rattle.serde_json.specs.Find.{as_i64}
use Rattle.serde_json.specs.Read.{read}
use Rattle.pl_json.specs.Faults.{with_fault}
use Rattle.pl_json.specs.Read.{Reading, deepest, whole_read, text_read, before, element_read, items_read, members_read, is_marked, plaintext_read, secret_by, object_by, read_in}

-- a value that was read is no deeper
abbrev Within : ℕ → Reading → Type 0
Within levels told = IfOk told (λ found. depth found ≤ levels)

abbrev ValuesWithin : ℕ → Result (List Value) JsonFault → Type 0
ValuesWithin levels told = IfOk told (λ found. greatest_depth found ≤ levels)

abbrev FieldsWithin : ℕ → Result (List (List ℕ × Value)) JsonFault → Type 0
FieldsWithin levels told = IfOk told (λ found. greatest_field_depth found ≤ levels)

flat : (levels : ℕ) (found : Value) → depth found ≡ 0 → depth found ≤ levels
flat levels found is = omega arith

within-whole : (levels : ℕ) (o : Option ℤ) → Within levels (whole_read o)
within-whole levels None = tt
within-whole levels (Some whole) = flat levels _ (depth-Whole whole)

within-text : (levels : ℕ) (text : List ℕ) → depth (text_read text) ≤ levels
within-text levels text = by_case (bytes_eq text unknown_text)
  where
    by_case : (t : Bool) → depth (cond t value.Unknown (value.Text text)) ≤ levels
    by_case true = flat levels _ depth-Unknown
    by_case false = flat levels _ (depth-Text text)

within-with_fault : (levels : ℕ) (change : JsonFault → JsonFault) (told : Reading) → Within levels told → Within levels (with_fault change told)
within-with_fault levels change (Ok found) within = within
within-with_fault levels change (Err fault) within = tt

module _ (levels : ℕ) (inside : Data → Reading) (each : (d : Data) → Within levels (inside d)) where
  within-element : (one : Reading) (others : Result (List Value) JsonFault) → Within levels one → ValuesWithin levels others → ValuesWithin levels (before one others)
  within-element (Ok found) (Ok more) here later = omega arith
  within-element (Ok found) (Err fault) here later = tt
  within-element (Err fault) others here later = tt

  within-items : (place : ℕ) (ds : Items) → ValuesWithin levels (items_read inside place ds)
  within-items place no_items = omega arith
  within-items place (item d ds) =
      within-element (element_read inside place d) (items_read inside (place + 1) ds) (within-with_fault levels _ (inside d) (each d)) (within-items (place + 1) ds)

  within-field : (key : List ℕ) (change : JsonFault → JsonFault) (told : Reading) (others : Result (List (List ℕ × Value)) JsonFault) → Within levels told → FieldsWithin levels others
      → FieldsWithin levels (before (result_map_both (λ found. (key, found)) change told) others)
  within-field key change (Ok found) (Ok more) here later = omega arith
  within-field key change (Ok found) (Err fault) here later = tt
  within-field key change (Err fault) others here later = tt

  within-members : (ms : Members) → FieldsWithin levels (members_read inside ms)
  within-members no_members = omega arith
  within-members (member key d ms) = within-field key _ (inside d) (members_read inside ms) (each d) (within-members ms)

  within-list : (told : Result (List Value) JsonFault) → ValuesWithin levels told → Within (suc levels) (result_map_both value.List (λ fault. fault) told)
  within-list (Ok found) within = omega (arith, depth-List found)
  within-list (Err fault) within = tt

  within-fields : (told : Result (List (List ℕ × Value)) JsonFault) → FieldsWithin levels told → Within (suc levels) (result_map_both value.Object (λ fault. fault) told)
  within-fields (Ok found) within = omega (arith, depth-Object found)
  within-fields (Err fault) within = tt

  within-hidden : (change : JsonFault → JsonFault) (told : Reading) → Within levels told → Within (suc levels) (result_map_both value.Secret change told)
  within-hidden change (Ok found) within = omega (arith, depth-Secret found)
  within-hidden change (Err fault) within = tt

  within-plaintext : (o : Option Data) → Within (suc levels) (plaintext_read inside o)
  within-plaintext None = tt
  within-plaintext (Some d) = within-hidden _ (inside d) (each d)

  within-secret : (o : Option Data) (sealed : Bool) → Within (suc levels) (secret_by inside o sealed)
  within-secret None true = tt
  within-secret None false = tt
  within-secret (Some null) sealed = tt
  within-secret (Some (boolean b)) sealed = tt
  within-secret (Some (number n)) sealed = tt
  within-secret (Some (string text)) sealed = within-plaintext (read text)
  within-secret (Some (array ds)) sealed = tt
  within-secret (Some (object ms)) sealed = tt

  within-object : (ms : Members) (marked : Result Bool JsonFault) → Within (suc levels) (object_by inside ms marked)
  within-object ms (Ok true) = within-secret _ _
  within-object ms (Ok false) = within-fields (members_read inside ms) (within-members ms)
  within-object ms (Err fault) = tt

within-read : (levels : ℕ) (d : Data) → Within levels (read_in levels d)
within-read zero null = flat _ _ depth-Null
within-read zero (boolean b) = flat _ _ (depth-Flag b)
within-read zero (number n) = within-whole zero (as_i64 n)
within-read zero (string text) = within-text zero text
within-read zero (array ds) = tt
within-read zero (object ms) = tt
within-read (suc levels) null = flat _ _ depth-Null
within-read (suc levels) (boolean b) = flat _ _ (depth-Flag b)
within-read (suc levels) (number n) = within-whole (suc levels) (as_i64 n)
within-read (suc levels) (string text) = within-text (suc levels) text
within-read (suc levels) (array ds) = within-list levels (read_in levels) (within-read levels) (items_read (read_in levels) 0 ds) (within-items levels (read_in levels) (within-read levels) 0 ds)
within-read (suc levels) (object ms) = within-object levels (read_in levels) (within-read levels) ms (is_marked ms)

pub shallow-read : (levels : ℕ) (d : Data) (found : Value) → read_in levels d ≡ Ok found → depth found ≤ levels
shallow-read levels d found is = subst (Within levels) is (within-read levels d)

pub shallow-members : (levels : ℕ) (ms : Members) (found : List (List ℕ × Value)) → members_read (read_in levels) ms ≡ Ok found → greatest_field_depth found ≤ levels
shallow-members levels ms found is = subst (FieldsWithin levels) is (within-members levels (read_in levels) (within-read levels) ms)

pub deepest-is : deepest ≡ 64
unfolding deepest
deepest-is = refl
