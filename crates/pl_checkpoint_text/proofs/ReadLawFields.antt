-- What was read of the fields of an object.
use Rattle.std.proofs.Common.{◌≡◌, ◌≢◌, ◌≤◌, ◌==◌, ◌+◌, ℕ, Bool, true, false, ◌||◌, cond, List, [], ◌∷◌, ◌++◌, Option, Some, None, option_and_then, IfSome, Result, Ok, Err, Ordering, Less, Equal, Greater, refl, sym, ap, ap₂, subst, ◌∙◌, arith}
use Rattle.std.proofs.lemmas.Bool.{and_parts, and_from}
use Rattle.std.specs.Cmp.Lexicographic.{slice_cmp}
use Rattle.std.specs.List.{AllByRecursion, list_all}
use Rattle.std.specs.Ordering.{nat_cmp, match_ordering}
use Rattle.std.specs.Result.{result_map_both}
use borrow.Author.Tests.{eqb-true}
use Rattle.pl_json.proofs.ReadBack.{AllAbove}
use Rattle.pl_json.proofs.Shallow.{shallow-members, deepest-is}
use Rattle.pl_json.specs.Read.{deepest, fields_of, is_marked, members_read, read_in, secret_read, unless_secret_by}
use Rattle.pl_reference.specs.Reference.{before_last_cut, after_last_cut, is_reference, reference_in}
use Rattle.pl_reference.specs.declared.reference.ProviderRef.{ProviderRef}
use Rattle.pl_urn.specs.Cut.{cut, begins_with_cut, has_cut, rest_of}
use Rattle.pl_value.specs.Depth.{most_levels}
use Rattle.pl_value.specs.Inside.{greatest_field_depth}
use Rattle.pl_value.specs.Keys.{are_rising, is_below, keys_of}
use Rattle.pl_value.specs.declared.json.JsonFault.{JsonFault}
use Rattle.pl_value.specs.declared.value.Value.{Value}
use Rattle.serde_json.specs.Data.{Data, null, boolean, number, string, array, object, Items, no_items, item, Members, no_members, member}
use Rattle.serde_json.specs.Find.{as_str, get_member}
use Rattle.serde_json.specs.Written.{compact_text}
use Rattle.pl_lemmas.proofs.Truth.{or_first}
use Rattle.pl_checkpoint_text.specs.Formed.{reads_back}
use Rattle.pl_checkpoint_text.specs.ReadEntry.{members_fault, unread_by, unread_of}
use Rattle.pl_checkpoint_text.specs.ReadField.{Reading, ◌>>=◌, element_path, elements, field_path, items_in, members_in, nonempty_in, of_kind, optional, or_default, or_missing, properties_in, properties_of, reference_found, reference_of, required, some_in, some_of, text_of, unless_empty_text, unless_null, urns_in, values_fault, values_in}
use Rattle.pl_checkpoint_text.proofs.ReadLawProper.{IsProper, ItemsAreProper, MembersAreProper}

-- ---- readings that gave something

pub ok_same : {A : Type 0} (a b : A) → ◌≡◌ {A = Reading A} (Ok a) (Ok b) → a ≡ b
ok_same a b same = cc

-- what the first of two readings gave, and what the second gave of it
pub bound : {A B : Type 0} (one : Reading A) (next : A → Reading B) (made : B) → (one >>= next) ≡ Ok made → (a : A) × (one ≡ Ok a) × (next a ≡ Ok made)
bound (Ok a) next made is = (a, refl, is)
bound (Err why) next made is = cc

-- ---- what stands under a key

either_proper : (o : Ordering) (here later : Option Data) → IfSome here IsProper → IfSome later IsProper → IfSome (match_ordering o later here later) IsProper
either_proper Less here later p q = q
either_proper Equal here later p q = p
either_proper Greater here later p q = q

found_proper : (key : List ℕ) (ms : Members) → MembersAreProper ms → IfSome (get_member key ms) IsProper
found_proper key no_members all = tt
found_proper key (member first d ms) all = either_proper (slice_cmp nat_cmp key first) (Some d) (get_member key ms) all.0 (found_proper key ms all.2)

pub proper_member : (key : List ℕ) (ms : Members) (d : Data) → MembersAreProper ms → get_member key ms ≡ Some d → IsProper d
proper_member key ms d all is = subst (λ (o : Option Data). IfSome o IsProper) is (found_proper key ms all)

abbrev pub Gives : {A : Type 0} → (A → Type 0) → A → (Data → Reading A) → Option Data → Type 0
Gives P a read found = (d : Data) → found ≡ Some d → read d ≡ Ok a → P a

pub default_gives : {A : Type 0} (P : A → Type 0) (default a : A) (read : Data → Reading A) (found : Option Data) → P default → Gives P a read found
    → or_default default read (unless_null found) ≡ Ok a → P a
default_gives P default a read None p q is = subst P (ok_same default a is) p
default_gives P default a read (Some null) p q is = subst P (ok_same default a is) p
default_gives P default a read (Some (boolean b)) p q is = q (boolean b) refl is
default_gives P default a read (Some (number n)) p q is = q (number n) refl is
default_gives P default a read (Some (string s)) p q is = q (string s) refl is
default_gives P default a read (Some (array ds)) p q is = q (array ds) refl is
default_gives P default a read (Some (object ms)) p q is = q (object ms) refl is

-- what holds of the default, and of what a field is read as, holds of what was read
pub optional_gives : {A : Type 0} (P : A → Type 0) (default a : A) (kind : List ℕ → Data → Reading A) (path key : List ℕ) (ms : Members)
    → P default → Gives P a (kind (field_path path key)) (get_member key ms) → optional default kind path key ms ≡ Ok a → P a
unfolding optional
optional_gives P default a kind path key ms p q is = default_gives P default a (kind (field_path path key)) (get_member key ms) p q is

missing_gives : {A : Type 0} (P : A → Type 0) (a : A) (path : List ℕ) (read : Data → Reading A) (found : Option Data) → Gives P a read found
    → or_missing path read (unless_null found) ≡ Ok a → P a
missing_gives P a path read None q is = absurd (cc)
missing_gives P a path read (Some null) q is = absurd (cc)
missing_gives P a path read (Some (boolean b)) q is = q (boolean b) refl is
missing_gives P a path read (Some (number n)) q is = q (number n) refl is
missing_gives P a path read (Some (string s)) q is = q (string s) refl is
missing_gives P a path read (Some (array ds)) q is = q (array ds) refl is
missing_gives P a path read (Some (object ms)) q is = q (object ms) refl is

pub required_gives : {A : Type 0} (P : A → Type 0) (a : A) (kind : List ℕ → Data → Reading A) (path key : List ℕ) (ms : Members)
    → Gives P a (kind (field_path path key)) (get_member key ms) → required kind path key ms ≡ Ok a → P a
unfolding required
required_gives P a kind path key ms q is = missing_gives P a (field_path path key) (kind (field_path path key)) (get_member key ms) q is

-- ---- kinds of fields

pub object_proper : (path : List ℕ) (d : Data) (ms : Members) → IsProper d → members_in path d ≡ Ok ms → MembersAreProper ms
object_proper path null ms proper is = absurd (cc)
object_proper path (boolean b) ms proper is = absurd (cc)
object_proper path (number n) ms proper is = absurd (cc)
object_proper path (string s) ms proper is = absurd (cc)
object_proper path (array ds) ms proper is = absurd (cc)
object_proper path (object own) ms proper is = subst MembersAreProper (ok_same own ms is) proper

pub list_proper : (path : List ℕ) (d : Data) (ds : Items) → IsProper d → items_in path d ≡ Ok ds → ItemsAreProper ds
list_proper path null ds proper is = absurd (cc)
list_proper path (boolean b) ds proper is = absurd (cc)
list_proper path (number n) ds proper is = absurd (cc)
list_proper path (string s) ds proper is = absurd (cc)
list_proper path (array own) ds proper is = subst ItemsAreProper (ok_same own ds is) proper
list_proper path (object ms) ds proper is = absurd (cc)

kind_nonempty : (path : List ℕ) (found : Option (List ℕ)) (text : List ℕ) → of_kind path (option_and_then unless_empty_text found) ≡ Ok text → text ≢ []
kind_nonempty path None text is none = cc
kind_nonempty path (Some []) text is none = cc
kind_nonempty path (Some (first ∷ more)) text is none = cc

pub nonempty_text : (path : List ℕ) (d : Data) (text : List ℕ) → nonempty_in path d ≡ Ok text → text ≢ []
nonempty_text path d text is = kind_nonempty path (as_str d) text is

some_nonempty : (path : List ℕ) (found : Option (List ℕ)) (text : Option (List ℕ)) → (of_kind path found >>= λ one. some_of text_of path (unless_empty_text one)) ≡ Ok text → text ≢ Some []
some_nonempty path None text is none = cc
some_nonempty path (Some []) text is none = cc
some_nonempty path (Some (first ∷ more)) text is none = cc

pub nonempty_or_none : (path : List ℕ) (d : Data) (text : Option (List ℕ)) → some_in text_of path d ≡ Ok text → text ≢ Some []
nonempty_or_none path d text is = some_nonempty path (as_str d) text is

-- ---- provider references

cut_here : (b : ℕ) (bs : List ℕ) → begins_with_cut (b ∷ bs) ≡ true → cut ++ rest_of bs ≡ b ∷ bs
unfolding begins_with_cut
cut_here b [] is = cc
cut_here b (c ∷ rest) is =
    let parts = and_parts (b == 58) (c == 58) is in
    let first : b ≡ 58 = eqb-true b 58 parts.0 in
    let second : c ≡ 58 = eqb-true c 58 parts.1 in
    ap₂ (λ x y. x ∷ (y ∷ rest)) (sym first) (sym second)

cut_parts : (b : ℕ) (bs : List ℕ) (later : Bool) → has_cut bs ≡ later → (begins_with_cut (b ∷ bs) || has_cut bs) ≡ true
    → (has_cut bs ≡ true → before_last_cut bs ++ (cut ++ after_last_cut bs) ≡ bs)
    → cond later (b ∷ before_last_cut bs) [] ++ (cut ++ cond later (after_last_cut bs) (rest_of bs)) ≡ b ∷ bs
cut_parts b bs true is has whole = ap (λ l. b ∷ l) (whole is)
cut_parts b bs false is has whole = cut_here b bs (or_first _ _ has is)

-- what stands before the last `::` and after it make up the text
cut_whole : (text : List ℕ) → has_cut text ≡ true → before_last_cut text ++ (cut ++ after_last_cut text) ≡ text
unfolding has_cut before_last_cut after_last_cut
cut_whole [] has = cc
cut_whole (b ∷ bs) has = cut_parts b bs (has_cut bs) refl has (cut_whole bs)

found_back : (text : List ℕ) (t : Bool) (made : ProviderRef) (path : List ℕ) → is_reference text ≡ t
    → reference_found path (cond t (Some (before_last_cut text, after_last_cut text)) None) ≡ Ok made → reads_back made
unfolding reference_in is_reference
found_back text false made path is found = absurd (cc)
found_back text true made path is found =
    let has : has_cut text ≡ true = (and_parts (has_cut text) _ is).0 in
    let whole = cut_whole text has in
    let back : reference_in (before_last_cut text ++ (cut ++ after_last_cut text)) ≡ Some (before_last_cut text, after_last_cut text) =
    ap reference_in whole ∙ ap (λ t. cond t (Some (before_last_cut text, after_last_cut text)) None) is in
    subst reads_back (ok_same _ made found) back

reference_back : (path text : List ℕ) (made : ProviderRef) → reference_of path text ≡ Ok made → reads_back made
unfolding reference_in
reference_back path text made is = found_back text (is_reference text) made path refl is

some_back : (path : List ℕ) (one : Reading ProviderRef) (made : Option ProviderRef) → ((reference : ProviderRef) → one ≡ Ok reference → reads_back reference)
    → result_map_both Some (λ why. why) one ≡ Ok made → IfSome made reads_back
some_back path (Ok reference) made back is = subst (λ (o : Option ProviderRef). IfSome o reads_back) (ok_same (Some reference) made is) (back reference refl)
some_back path (Err why) made back is = absurd (cc)

text_back : (path : List ℕ) (found : Option (List ℕ)) (made : Option ProviderRef) → (of_kind path found >>= λ text. some_of reference_of path (unless_empty_text text)) ≡ Ok made → IfSome made reads_back
text_back path None made is = absurd (cc)
text_back path (Some []) made is = subst (λ (o : Option ProviderRef). IfSome o reads_back) (ok_same None made is) tt
text_back path (Some (first ∷ more)) made is =
    some_back path (reference_of path (first ∷ more)) made (λ reference. reference_back path (first ∷ more) reference) is

pub provider_back : (path : List ℕ) (d : Data) (made : Option ProviderRef) → some_in reference_of path d ≡ Ok made → IfSome made reads_back
provider_back path d made is = text_back path (as_str d) made is

-- ---- objects of values

no_secret_fields : (path : List ℕ) (one : Result Value JsonFault) (fields : List (List ℕ × Value))
    → result_map_both (λ found. found) (values_fault path) (fields_of path (result_map_both (λ secret. None) (λ fault. fault) one)) ≡ Ok fields → ⊥
no_secret_fields path (Ok secret) fields is = cc
no_secret_fields path (Err fault) fields is = cc

plain_fields : (path : List ℕ) (ms : Members) (one : Result (List (List ℕ × Value)) JsonFault) (fields : List (List ℕ × Value))
    → one ≡ members_read (read_in deepest) ms
    → result_map_both (λ found. found) (values_fault path) (fields_of path (result_map_both Some (λ fault. fault) one)) ≡ Ok fields
    → members_read (read_in deepest) ms ≡ Ok fields
plain_fields path ms (Ok found) fields made is = sym made ∙ ap Ok (ok_same found fields is)
plain_fields path ms (Err fault) fields made is = absurd (cc)

marked_fields : (path : List ℕ) (ms : Members) (marked : Result Bool JsonFault) (fields : List (List ℕ × Value))
    → result_map_both (λ found. found) (values_fault path) (fields_of path (unless_secret_by ms marked)) ≡ Ok fields
    → (marked ≡ Ok false) × (members_read (read_in deepest) ms ≡ Ok fields)
marked_fields path ms (Ok true) fields is = absurd (no_secret_fields path (secret_read (read_in deepest) ms) fields is)
marked_fields path ms (Ok false) fields is = (refl, plain_fields path ms (members_read (read_in deepest) ms) fields refl is)
marked_fields path ms (Err fault) fields is = absurd (cc)

-- what an object of values is read as
pub values_read : (path : List ℕ) (d : Data) (fields : List (List ℕ × Value)) → values_in path d ≡ Ok fields
    → (ms : Members) × (d ≡ object ms) × (is_marked ms ≡ Ok false) × (members_read (read_in deepest) ms ≡ Ok fields)
values_read path null fields is = absurd (cc)
values_read path (boolean b) fields is = absurd (cc)
values_read path (number n) fields is = absurd (cc)
values_read path (string s) fields is = absurd (cc)
values_read path (array ds) fields is = absurd (cc)
values_read path (object ms) fields is =
    let told = marked_fields path ms (is_marked ms) fields is in
    (ms, refl, told.0, told.1)

pub shallow_values : (path : List ℕ) (d : Data) (fields : List (List ℕ × Value)) → values_in path d ≡ Ok fields → greatest_field_depth fields ≤ most_levels
shallow_values path d fields is =
    let told = values_read path d fields is in
    let shallow = shallow-members deepest told.0 fields told.3 in
    omega (arith, deepest-is, shallow)

-- ---- lists of URNs by properties

properties_above : (low path : List ℕ) (ms : Members) (pairs : List (List ℕ × List (List ℕ))) → AllAbove low ms → properties_of path ms ≡ Ok pairs
    → list_all (is_below low) (keys_of pairs) ≡ true
unfolding properties_of
properties_above low path no_members pairs above is = subst (λ (ps : List (List ℕ × List (List ℕ))). list_all (is_below low) (keys_of ps) ≡ true) (ok_same [] pairs is) refl
properties_above low path (member key d ms) pairs above is =
    let first = bound (or_default [] (urns_in (field_path path key)) (unless_null (Some d))) _ _ is in
    let others = bound (properties_of path ms) _ _ first.2 in
    subst (λ (ps : List (List ℕ × List (List ℕ))). list_all (is_below low) (keys_of ps) ≡ true) (ok_same _ pairs others.2)
    (and_from _ _ above.0 (properties_above low path ms others.0 above.1 others.1))

properties_rise : (path : List ℕ) (ms : Members) (pairs : List (List ℕ × List (List ℕ))) → MembersAreProper ms → properties_of path ms ≡ Ok pairs
    → are_rising (keys_of pairs) ≡ true
unfolding properties_of
properties_rise path no_members pairs proper is = subst (λ (ps : List (List ℕ × List (List ℕ))). are_rising (keys_of ps) ≡ true) (ok_same [] pairs is) refl
properties_rise path (member key d ms) pairs proper is =
    let first = bound (or_default [] (urns_in (field_path path key)) (unless_null (Some d))) _ _ is in
    let others = bound (properties_of path ms) _ _ first.2 in
    subst (λ (ps : List (List ℕ × List (List ℕ))). are_rising (keys_of ps) ≡ true) (ok_same _ pairs others.2)
    (and_from _ _ (properties_above key path ms others.0 proper.1 others.1) (properties_rise path ms others.0 proper.2 others.1))

pub rising_properties : (path : List ℕ) (d : Data) (pairs : List (List ℕ × List (List ℕ))) → IsProper d → properties_in path d ≡ Ok pairs
    → are_rising (keys_of pairs) ≡ true
rising_properties path d pairs proper is =
    let object = bound (members_in path d) _ _ is in
    properties_rise path object.0 pairs (object_proper path d object.0 proper object.1) object.2

-- ---- unread fields

text_by : (path text : List ℕ) (ms : Members) (fault : Option JsonFault) → unread_by path ms fault ≡ Ok text → (fault ≡ None) × (compact_text (object ms) ≡ text)
text_by path text ms None is = (refl, ok_same _ text is)
text_by path text ms (Some fault) is = absurd (cc)

pub unread_gives : (path text : List ℕ) (ms : Members) → unread_of path ms ≡ Ok text → (members_fault most_levels ms ≡ None) × (compact_text (object ms) ≡ text)
unfolding unread_of
unread_gives path text ms is = text_by path text ms (members_fault most_levels ms) is

-- ---- lists

-- what holds of each element that is read holds of those of the list
pub all_elements : {A : Type 0} (P : A → Type 0) (kind : List ℕ → Data → Reading A) → ((path : List ℕ) (d : Data) (a : A) → IsProper d → kind path d ≡ Ok a → P a)
    → (path : List ℕ) (place : ℕ) (ds : Items) (made : List A) → ItemsAreProper ds → elements kind path place ds ≡ Ok made → AllByRecursion P made
unfolding elements
all_elements P kind each path place no_items made proper is = subst (AllByRecursion P) (ok_same [] made is) tt
all_elements P kind each path place (item d more) made proper is =
    let first = bound (kind (element_path path place) d) _ _ is in
    let others = bound (elements kind path (place + 1) more) _ _ first.2 in
    subst (AllByRecursion P) (ok_same _ made others.2)
    (each (element_path path place) d first.0 proper.0 first.1, all_elements P kind each path (place + 1) more others.0 proper.1 others.1)
