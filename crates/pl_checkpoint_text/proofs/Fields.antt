-- Fields that are put into their places among the members of an object.
use Rattle.std.proofs.Common.{◌≡◌, ℕ, ◌<◌, ◌+◌, length, map, take, get_or, Bool, true, false, not, cond, if◌then◌else◌, bytes_eq, List, [], ◌∷◌, ◌++◌, Option, Some, None, Ordering, Less, Equal, Greater, is_eq, refl, sym, ap, ◌∙◌}
use Rattle.std.proofs.lemmas.Bool.{and_parts, not-true}
use Rattle.std.proofs.lemmas.List.{take_more, map-append}
use Rattle.std.proofs.lemmas.Map.Text.{is_eq-slice_cmp}
use Rattle.std.proofs.lemmas.Slice.Eq.{bytes_eq-Decides}
use Rattle.std.specs.Cmp.Lexicographic.{slice_cmp}
use Rattle.std.specs.List.{list_all}
use Rattle.std.specs.Ordering.{nat_cmp, match_ordering}
use Rattle.serde_json.specs.Data.{Data, Members, no_members, member, put}
use Rattle.serde_json.specs.Find.{get_member}
use Rattle.serde_json.proofs.Views.{get_member-put, get_member-put_other}
use Rattle.pl_json.specs.Objects.{Field, put_if_some, with_fields, texts_data}
use Rattle.pl_checkpoint_text.specs.Spelled.{property_field}
use Rattle.pl_checkpoint_text.specs.Formed.{is_one_of, are_other}
use Rattle.pl_checkpoint_text.specs.ReadEntry.{other_members}
use Rattle.pl_json.proofs.Objects.{over, with_fields-push}

abbrev pub Key : Type 0
Key = List ℕ

-- ---- what stands under a key

-- what the fields leave under a key where something stood before
abbrev pub found : List Field → Key → Option Data → Option Data
found [] key before = before
found (field ∷ more) key before = found more key (cond (bytes_eq field.0 key) (over field.1 before) before)

get_member-put_same : (b : Bool) (key own : Key) (value : Data) (ms : Members) → bytes_eq own key ≡ b
    → get_member key (put own value ms) ≡ cond b (Some value) (get_member key ms)
get_member-put_same true key own value ms same =
    let equal : own ≡ key = (bytes_eq-Decides own key).0 same in
    rw equal (get_member-put key value ms)
get_member-put_same false key own value ms apart =
    get_member-put_other key own value ms (λ equal. let same : bytes_eq own key ≡ true = (bytes_eq-Decides own key).1 (sym equal) in cc)

get_member-put_if_some : (b : Bool) (key own : Key) (value : Option Data) (ms : Members) → bytes_eq own key ≡ b
    → get_member key (put_if_some own value ms) ≡ cond b (over value (get_member key ms)) (get_member key ms)
get_member-put_if_some true key own None ms same = refl
get_member-put_if_some false key own None ms same = refl
get_member-put_if_some true key own (Some value) ms same = get_member-put_same true key own value ms same
get_member-put_if_some false key own (Some value) ms same = get_member-put_same false key own value ms same

pub get_member-with_fields : (fields : List Field) (key : Key) (ms : Members)
    → get_member key (with_fields fields ms) ≡ found fields key (get_member key ms)
get_member-with_fields [] key ms = refl
get_member-with_fields (field ∷ more) key ms =
    get_member-with_fields more key (put_if_some field.0 field.1 ms)
    ∙ ap (found more key) (get_member-put_if_some (bytes_eq field.0 key) key field.0 field.1 ms refl)

neither : (o : Ordering) (value : Option Data) → is_eq o ≡ false → (here : Option Data) → match_ordering o value here value ≡ value
neither Less value apart here = refl
neither Equal value apart here = cc
neither Greater value apart here = refl

pub same_key : (b : Bool) (a c : Key) → bytes_eq a c ≡ b → (a ≡ c → ⊥) → b ≡ false
same_key true a c same apart = absurd (apart ((bytes_eq-Decides a c).0 same))
same_key false a c same apart = refl

-- members that have none of the keys have nothing under one of them
pub get_member-other : (keys : List Key) (key : Key) (ms : Members) → is_one_of keys key ≡ true → are_other keys ms ≡ true
    → get_member key ms ≡ None
get_member-other keys key no_members own other = refl
get_member-other keys key (member first value more) own other =
    let parts = and_parts (not (is_one_of keys first)) (are_other keys more) other in
    let not_own : is_one_of keys first ≡ false = not-true _ parts.0 in
    let apart : bytes_eq key first ≡ false = same_key _ key first refl (λ same. let yes : is_one_of keys first ≡ true = ap (is_one_of keys) (sym same) ∙ own in cc) in
    let later = get_member-other keys key more own parts.1 in
    rw later (neither (slice_cmp nat_cmp key first) None (is_eq-slice_cmp key first ∙ apart) (Some value))

-- ---- the members under other keys

pub other_members-other : (keys : List Key) (ms : Members) → are_other keys ms ≡ true → other_members keys ms ≡ ms
other_members-other keys no_members other = refl
other_members-other keys (member key value more) other =
    let parts = and_parts (not (is_one_of keys key)) (are_other keys more) other in
    rw (not-true _ parts.0, other_members-other keys more parts.1) refl

other_members-put_at : (o : Ordering) (keys : List Key) (key first : Key) (value here : Data) (more : Members) → slice_cmp nat_cmp key first ≡ o
    → is_one_of keys key ≡ true → other_members keys (put key value more) ≡ other_members keys more
    → other_members keys (match_ordering o (member key value (member first here more)) (member first value more) (member first here (put key value more)))
    ≡ other_members keys (member first here more)
other_members-put_at Less keys key first value here more is own later = rw own refl
other_members-put_at Equal keys key first value here more is own later =
    let same : key ≡ first = (bytes_eq-Decides key first).0 (sym (is_eq-slice_cmp key first) ∙ ap is_eq is) in
    let first_own : is_one_of keys first ≡ true = ap (is_one_of keys) (sym same) ∙ own in
    rw first_own refl
other_members-put_at Greater keys key first value here more is own later = ap (λ ms. if is_one_of keys first then ms else member first here ms) later

other_members-put : (keys : List Key) (key : Key) (value : Data) (ms : Members) → is_one_of keys key ≡ true
    → other_members keys (put key value ms) ≡ other_members keys ms
other_members-put keys key value no_members own = rw own refl
other_members-put keys key value (member first here more) own =
    other_members-put_at _ keys key first value here more refl own (other_members-put keys key value more own)

other_members-put_if_some : (keys : List Key) (key : Key) (value : Option Data) (ms : Members) → is_one_of keys key ≡ true
    → other_members keys (put_if_some key value ms) ≡ other_members keys ms
other_members-put_if_some keys key None ms own = refl
other_members-put_if_some keys key (Some value) ms own = other_members-put keys key value ms own

-- fields that were put in are taken out again
pub other_members-with_fields : (keys : List Key) (fields : List Field) (ms : Members) → list_all (λ field. is_one_of keys field.0) fields ≡ true
    → other_members keys (with_fields fields ms) ≡ other_members keys ms
other_members-with_fields keys [] ms own = refl
other_members-with_fields keys (field ∷ more) ms own =
    let parts = and_parts (is_one_of keys field.0) (list_all (λ one. is_one_of keys one.0) more) own in
    other_members-with_fields keys more (put_if_some field.0 field.1 ms) parts.1
    ∙ other_members-put_if_some keys field.0 field.1 ms parts.0

-- ---- the URNs of properties

-- the next property
pub with_properties-next : (pairs : List (Key × List Key)) (place : ℕ) (pair : Key × List Key) (ms : Members) → place < length pairs → pair ≡ get_or pairs place pair
    → put pair.0 (texts_data pair.1) (with_fields (map property_field (take place pairs)) ms) ≡ with_fields (map property_field (take (place + 1) pairs)) ms
with_properties-next pairs place pair ms within is =
    let taken : take (place + 1) pairs ≡ take place pairs ++ pair ∷ [] = take_more pairs place pair within ∙ ap (λ last. take place pairs ++ last ∷ []) (sym is) in
    sym (ap (λ ps. with_fields (map property_field ps) ms) taken
    ∙ ap (λ fields. with_fields fields ms) (map-append property_field (take place pairs) (pair ∷ []))
    ∙ with_fields-push (map property_field (take place pairs)) (property_field pair) ms)
