-- What the readers of other crates answer, in the words of this crate.
use Rattle.std.proofs.Common.{if◌then◌else◌, ◌≡◌, ℕ, Bool, true, false, List, Option, Some, None, Result, Ok, Err, is_ok, ◌⊎◌, inl, inr, refl}
use Rattle.pl_path.specs.Grammar.{bad_place, is_path, path_in, segments_of}
use Rattle.pl_path.specs.Reset.{reset_along, reset_at}
use Rattle.pl_path.specs.declared.segment.Segment.{Segment}
use Rattle.pl_reference.specs.Reference.{before_last_cut, after_last_cut, is_reference, reference_in}
use Rattle.pl_value.specs.declared.value.Value.{Value}
use Rattle.pl_options.specs.GoalOf.{is_version}
use Rattle.semver.specs.Parse.{Parts, memory_error, version_parts}
use Rattle.semver.specs.declared.error.Error.{Error}

read_is_ok : (r : Result (List Segment) ℕ) (path : List Segment) → elim r [ Ok segments ↦ Some segments | Err place ↦ None ] ≡ Some path → is_ok r ≡ true
read_is_ok (Ok segments) path e = refl
read_is_ok (Err place) path e = absurd cc

refused_is_err : (r : Result (List Segment) ℕ) (at : ℕ) → elim r [ Ok segments ↦ None | Err place ↦ Some place ] ≡ Some at → is_ok r ≡ false
refused_is_err (Ok segments) at e = absurd cc
refused_is_err (Err place) at e = refl

-- a text that is read is a path
pub path_is_read : (text : List ℕ) (path : List Segment) → segments_of text ≡ Some path → is_path text ≡ true
unfolding segments_of is_path
path_is_read text path e = read_is_ok (path_in text) path e

-- a text that is refused is none
pub path_is_refused : (text : List ℕ) (at : ℕ) → bad_place text ≡ Some at → is_path text ≡ false
unfolding bad_place is_path
path_is_refused text at e = refused_is_err (path_in text) at e

pub path_is_not_refused : (text : List ℕ) (at : ℕ) → bad_place text ≡ Some at → is_path text ≡ true → ⊥
path_is_not_refused text at e is = let none = path_is_refused text at e in cc

set_back : (found : Option (List Segment)) (path : List Segment) (new old : List (List ℕ × Value)) → found ≡ Some path → elim found [ None ↦ new | Some path ↦ reset_along path new old ] ≡ reset_along path new old
set_back None path new old e = absurd cc
set_back (Some other) path new old e = let same : other ≡ path = cc in rw same refl

-- what is set back at a path's segments is set back at the path
pub reset_is_along : (text : List ℕ) (path : List Segment) (new old : List (List ℕ × Value)) → segments_of text ≡ Some path → reset_at text new old ≡ reset_along path new old
unfolding reset_at
reset_is_along text path new old e = set_back (segments_of text) path new old e

-- a text that is read is a reference
pub reference_is_read : (text : List ℕ) (named : List ℕ × List ℕ) → reference_in text ≡ Some named → is_reference text ≡ true
unfolding reference_in
reference_is_read text named e = some_is (is_reference text) (before_last_cut text, after_last_cut text) named e
  where
    some_is : (is : Bool) (made named : List ℕ × List ℕ) → (if is then Some made else None) ≡ Some named → is ≡ true
    some_is true made named e = refl
    some_is false made named e = absurd cc

pub reference_is_refused : (text : List ℕ) → reference_in text ≡ None → is_reference text ≡ false
unfolding reference_in
reference_is_refused text e = none_is (is_reference text) (before_last_cut text, after_last_cut text) e
  where
    none_is : (is : Bool) (made : List ℕ × List ℕ) → (if is then Some made else None) ≡ None → is ≡ false
    none_is true made e = absurd cc
    none_is false made e = refl

-- a text that is read is a version
pub version_is_read : (text : List ℕ) (parts : Parts) → version_parts text ≡ Ok parts → is_version text ≡ true
unfolding is_version
version_is_read text parts e = rw e refl

-- a text that is refused for another cause than memory is none
pub version_is_refused : (text : List ℕ) (error : Error) → (error ≡ memory_error → ⊥) → (error ≡ memory_error) ⊎ (version_parts text ≡ Err error) → is_version text ≡ false
unfolding is_version
version_is_refused text error other (inl memory) = absurd (other memory)
version_is_refused text error other (inr refused) = rw refused refl
