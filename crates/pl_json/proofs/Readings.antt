-- What is read of data level by level, and of elements and members one after another.
use Rattle.std.proofs.Common.{◌≡◌, ℕ, zero, suc, ◌+◌, List, [], ◌∷◌, ◌++◌, Result, Ok, Err, refl, sym, ap, append_assoc, string_bytes, arith}
use Rattle.std.specs.Result.{result_map_both}
use Rattle.pl_value.specs.declared.json.JsonFault.{JsonFault}
use Rattle.pl_value.specs.declared.value.Value.{Value}
use Rattle.serde_json.proofs.Views.{Entry}
use Rattle.serde_json.specs.Data.{Data, number, string, Num}
use Rattle.serde_json.specs.Find.{as_i64}
use Rattle.serde_json.specs.View.{view, members_view}
use Rattle.pl_json.specs.Read.{Reading, before, whole_read, text_read, members_read, read_in}

-- ---- levels

pub read_in-number : (levels : ℕ) (n : Num) → read_in levels (number n) ≡ whole_read (as_i64 n)
read_in-number zero n = refl
read_in-number (suc levels) n = refl

pub read_in-string : (levels : ℕ) (text : List ℕ) → read_in levels (string text) ≡ Ok (text_read text)
read_in-string zero text = refl
read_in-string (suc levels) text = refl

pub read_in-above : (inside levels : ℕ) (d : Data) → inside + 1 ≡ levels → read_in levels d ≡ read_in (suc inside) d
read_in-above inside levels d is =
    let same : levels ≡ suc inside = omega arith in
    ap (λ n. read_in n d) same

-- ---- one after another

-- these, and then what is read of the others
abbrev pub after : {A : Type 0} → List A → Result (List A) JsonFault → Result (List A) JsonFault
after made others = result_map_both (λ more. made ++ more) (λ fault. fault) others

pub after-before : {A : Type 0} (made : List A) (one : A) (others : Result (List A) JsonFault) → after made (before (Ok one) others) ≡ after (made ++ one ∷ []) others
after-before made one (Ok more) = ap Ok (sym (append_assoc made (one ∷ []) more))
after-before made one (Err fault) = refl

pub members_read-next : (inside : Data → Reading) (e : Entry) (left : List Entry) (v : Value) (made : List (List ℕ × Value)) → inside (view e.1) ≡ Ok v
    → after made (members_read inside (members_view (e ∷ left))) ≡ after (made ++ (string_bytes e.0, v) ∷ []) (members_read inside (members_view left))
members_read-next inside e left v made read = rw read (after-before made (string_bytes e.0, v) (members_read inside (members_view left)))
