-- Each kind of field is read as what it was written for.
use Rattle.std.proofs.Common.{◌≡◌, ◌≢◌, ◌≤◌, ◌+◌, ℕ, Bool, true, false, List, [], ◌∷◌, map, All, Option, Some, None, option_map, IfSome, Ok, refl, ap, ◌∙◌}
use Rattle.std.proofs.lemmas.List.Elements.{recursion_from_All}
use Rattle.std.specs.List.{AllByRecursion}
use Rattle.std.specs.Result.{result_map_both}
use Rattle.pl_json.proofs.SpelledIsRead.{fields_are_read}
use Rattle.pl_json.specs.Fits.{FieldsFit}
use Rattle.pl_json.specs.Spelled.{spelled_fields}
use Rattle.pl_reference.specs.Reference.{is_reference, reference_in, reference_text}
use Rattle.pl_reference.specs.declared.reference.ProviderRef.{ProviderRef}
use Rattle.pl_urn.specs.Cut.{has_cut}
use Rattle.pl_urn.specs.Grammar.{IsUrn, urn_fault}
use Rattle.pl_value.specs.Depth.{most_levels}
use Rattle.pl_value.specs.Inside.{greatest_field_depth}
use Rattle.pl_value.specs.IsValue.{AreFields}
use Rattle.pl_value.specs.Keys.{are_rising, keys_of}
use Rattle.pl_value.specs.declared.value.Value.{Value}
use Rattle.serde_json.specs.Data.{Data, boolean, string, Members}
use Rattle.serde_json.specs.Find.{get_member}
use Rattle.serde_json.specs.View.{items_of}
use Rattle.pl_checkpoint_text.specs.Formed.{reads_back}
use Rattle.pl_checkpoint_text.specs.ReadField.{Reading, ◌>>=◌, element_path, elements, field_path, flag_in, nonempty_in, optional, or_default, or_missing, properties_in, properties_of, reference_found, reference_of, required, some_in, text_in, text_of, texts_in, unless_null, urn_in, urn_of, urns_in, values_fault, values_in}
use Rattle.pl_json.specs.Objects.{flag_data, text_data, unless_empty, texts_data}
use Rattle.pl_checkpoint_text.specs.Spelled.{properties_data}
use Rattle.pl_checkpoint_text.proofs.Parts.{Pairs, in_order, rising_in_order}

-- ---- readings one after another

-- what the first reading gave goes on to the second
pub then_ok : {A B : Type 0} (one : Reading A) (next : A → Reading B) (a : A) → one ≡ Ok a → (one >>= next) ≡ next a
then_ok one next a is = ap (λ o. o >>= next) is

-- ---- what stands under a key

pub optional_some : {A : Type 0} (default a : A) (kind : List ℕ → Data → Reading A) (path key : List ℕ) (ms : Members) (d : Data)
    → get_member key ms ≡ Some d → unless_null (Some d) ≡ Some d → kind (field_path path key) d ≡ Ok a → optional default kind path key ms ≡ Ok a
unfolding optional
optional_some default a kind path key ms d there some is =
    ap (λ o. or_default default (kind (field_path path key)) (unless_null o)) there
    ∙ ap (or_default default (kind (field_path path key))) some ∙ is

pub optional_none : {A : Type 0} (default : A) (kind : List ℕ → Data → Reading A) (path key : List ℕ) (ms : Members)
    → get_member key ms ≡ None → optional default kind path key ms ≡ Ok default
unfolding optional
optional_none default kind path key ms there = ap (λ o. or_default default (kind (field_path path key)) (unless_null o)) there

pub required_some : {A : Type 0} (a : A) (kind : List ℕ → Data → Reading A) (path key : List ℕ) (ms : Members) (d : Data)
    → get_member key ms ≡ Some d → unless_null (Some d) ≡ Some d → kind (field_path path key) d ≡ Ok a → required kind path key ms ≡ Ok a
unfolding required
required_some a kind path key ms d there some is =
    ap (λ o. or_missing (field_path path key) (kind (field_path path key)) (unless_null o)) there
    ∙ ap (or_missing (field_path path key) (kind (field_path path key))) some ∙ is

-- ---- flags and texts

pub flag_back : (path key : List ℕ) (ms : Members) (flag : Bool) → get_member key ms ≡ flag_data flag → optional false flag_in path key ms ≡ Ok flag
flag_back path key ms true there = optional_some false true flag_in path key ms (boolean true) there refl refl
flag_back path key ms false there = optional_none false flag_in path key ms there

pub bool_back : (path key : List ℕ) (ms : Members) (flag : Bool) → get_member key ms ≡ Some (boolean flag) → optional false flag_in path key ms ≡ Ok flag
bool_back path key ms flag there = optional_some false flag flag_in path key ms (boolean flag) there refl refl

pub text_back : (path key : List ℕ) (ms : Members) (text : Option (List ℕ)) → get_member key ms ≡ text_data text → text ≢ Some []
    → optional None (some_in text_of) path key ms ≡ Ok text
text_back path key ms None there some = optional_none None (some_in text_of) path key ms there
text_back path key ms (Some []) there some = absurd (some refl)
text_back path key ms (Some (first ∷ more)) there some = optional_some None (Some (first ∷ more)) (some_in text_of) path key ms (string (first ∷ more)) there refl refl

pub kind_back : (path key : List ℕ) (ms : Members) (text : List ℕ) → get_member key ms ≡ Some (string text) → text ≢ [] → required nonempty_in path key ms ≡ Ok text
kind_back path key ms [] there some = absurd (some refl)
kind_back path key ms (first ∷ more) there some = required_some (first ∷ more) nonempty_in path key ms (string (first ∷ more)) there refl refl

-- ---- URNs

urn_read : (path text : List ℕ) → IsUrn text → urn_of path text ≡ Ok text
urn_read path text is = rw is refl

pub urn_back : (path key : List ℕ) (ms : Members) (text : List ℕ) → get_member key ms ≡ Some (string text) → IsUrn text → required urn_in path key ms ≡ Ok text
urn_back path key ms text there is = required_some text urn_in path key ms (string text) there refl (urn_read (field_path path key) text is)

no_urn : IsUrn [] → ⊥
unfolding urn_fault
no_urn is = cc

pub some_urn_back : (path key : List ℕ) (ms : Members) (text : Option (List ℕ)) → get_member key ms ≡ text_data text → IfSome text IsUrn
    → optional None (some_in urn_of) path key ms ≡ Ok text
some_urn_back path key ms None there is = optional_none None (some_in urn_of) path key ms there
some_urn_back path key ms (Some []) there is = absurd (no_urn is)
some_urn_back path key ms (Some (first ∷ more)) there is =
    optional_some None (Some (first ∷ more)) (some_in urn_of) path key ms (string (first ∷ more)) there refl
    (ap (result_map_both Some (λ why. why)) (urn_read (field_path path key) (first ∷ more) is))

-- ---- provider references

no_reference : reference_in [] ≡ None
unfolding reference_in is_reference has_cut
no_reference = refl

reference_read : (path text : List ℕ) (reference : ProviderRef) → reference_in text ≡ Some (reference.urn, reference.id) → some_in reference_of path (string text) ≡ Ok (Some reference)
reference_read path [] reference back = let none = no_reference in cc
reference_read path (first ∷ more) reference back = ap (λ found. result_map_both Some (λ why. why) (reference_found path found)) back

pub provider_back : (path key : List ℕ) (ms : Members) (provider : Option ProviderRef) → get_member key ms ≡ text_data (option_map reference_text provider) → IfSome provider reads_back
    → optional None (some_in reference_of) path key ms ≡ Ok provider
provider_back path key ms None there back = optional_none None (some_in reference_of) path key ms there
provider_back path key ms (Some reference) there back =
    optional_some None (Some reference) (some_in reference_of) path key ms (string (reference_text reference)) there refl
    (reference_read (field_path path key) (reference_text reference) reference back)

-- ---- lists

-- the elements that were written for a list's are read as the list
pub elements_back : {A : Type 0} (P : A → Type 0) (kind : List ℕ → Data → Reading A) (data_of : A → Data) → ((path : List ℕ) (a : A) → P a → kind path (data_of a) ≡ Ok a)
    → (path : List ℕ) (place : ℕ) (list : List A) → AllByRecursion P list → elements kind path place (items_of (map data_of list)) ≡ Ok list
unfolding elements
elements_back P kind data_of each path place [] all = refl
elements_back P kind data_of each path place (a ∷ more) all =
    then_ok (kind (element_path path place) (data_of a)) _ a (each (element_path path place) a all.0)
    ∙ then_ok (elements kind path (place + 1) (items_of (map data_of more))) _ more (elements_back P kind data_of each path (place + 1) more all.1)

every : {A : Type 0} (list : List A) → AllByRecursion (λ (a : A). Unit {0}) list
every [] = tt
every (a ∷ more) = (tt, every more)

pub texts_back : (path key : List ℕ) (ms : Members) (texts : List (List ℕ)) → get_member key ms ≡ unless_empty texts (texts_data texts) → optional [] texts_in path key ms ≡ Ok texts
texts_back path key ms [] there = optional_none [] texts_in path key ms there
texts_back path key ms (text ∷ more) there =
    optional_some [] (text ∷ more) texts_in path key ms (texts_data (text ∷ more)) there refl
    (elements_back (λ t. Unit {0}) text_in string (λ p t is. refl) (field_path path key) 0 (text ∷ more) (every (text ∷ more)))

urns_read : (path : List ℕ) (urns : List (List ℕ)) → All IsUrn urns → urns_in path (texts_data urns) ≡ Ok urns
urns_read path urns are = elements_back IsUrn urn_in string urn_read path 0 urns (recursion_from_All IsUrn urns are)

pub urns_back : (path key : List ℕ) (ms : Members) (urns : List (List ℕ)) → get_member key ms ≡ unless_empty urns (texts_data urns) → All IsUrn urns → optional [] urns_in path key ms ≡ Ok urns
urns_back path key ms [] there are = optional_none [] urns_in path key ms there
urns_back path key ms (urn ∷ more) there are =
    optional_some [] (urn ∷ more) urns_in path key ms (texts_data (urn ∷ more)) there refl (urns_read (field_path path key) (urn ∷ more) are)

-- ---- objects of values

pub values_back : (path key : List ℕ) (ms : Members) (fields : List (List ℕ × Value)) → get_member key ms ≡ unless_empty fields (spelled_fields fields) → AreFields fields → FieldsFit fields
    → greatest_field_depth fields ≤ most_levels → optional [] values_in path key ms ≡ Ok fields
values_back path key ms [] there are fit shallow = optional_none [] values_in path key ms there
values_back path key ms (field ∷ more) there are fit shallow =
    optional_some [] (field ∷ more) values_in path key ms (spelled_fields (field ∷ more)) there refl
    (ap (result_map_both (λ found. found) (values_fault (field_path path key))) (fields_are_read (field_path path key) (field ∷ more) are fit shallow))

-- ---- lists of URNs by properties

properties_read : (path : List ℕ) (pairs : Pairs) → AllByRecursion (λ (pair : List ℕ × List (List ℕ)). All IsUrn pair.1) pairs → properties_of path (in_order pairs) ≡ Ok pairs
unfolding properties_of
properties_read path [] are = refl
properties_read path (pair ∷ more) are =
    then_ok (urns_in (field_path path pair.0) (texts_data pair.1)) _ pair.1 (urns_read (field_path path pair.0) pair.1 are.0)
    ∙ then_ok (properties_of path (in_order more)) _ more (properties_read path more are.1)

pub properties_back : (path key : List ℕ) (ms : Members) (pairs : Pairs) → get_member key ms ≡ unless_empty pairs (properties_data pairs) → are_rising (keys_of pairs) ≡ true
    → All (λ (pair : List ℕ × List (List ℕ)). All IsUrn pair.1) pairs → optional [] properties_in path key ms ≡ Ok pairs
properties_back path key ms [] there rising are = optional_none [] properties_in path key ms there
properties_back path key ms (pair ∷ more) there rising are =
    optional_some [] (pair ∷ more) properties_in path key ms (properties_data (pair ∷ more)) there refl
    (ap (properties_of (field_path path key)) (rising_in_order (pair ∷ more) rising)
    ∙ properties_read (field_path path key) (pair ∷ more) (recursion_from_All _ (pair ∷ more) are))
