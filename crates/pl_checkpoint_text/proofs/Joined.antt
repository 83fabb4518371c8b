-- Texts that were spelled before, joined to one.
use Rattle.std.proofs.Common.{◌≡◌, ℕ, Bool, true, false, bytes_eq, cond, List, [], ◌∷◌, ◌++◌, map, string_bytes, string_cmp, Ordering, Less, Equal, Greater, is_eq, IfOk, Result, Ok, Err, append_assoc, codes, subst, refl, sym, ap, ap₂, ◌∙◌}
use Rattle.std.proofs.lemmas.Map.Text.{is_eq-slice_cmp}
use Rattle.std.proofs.lemmas.Slice.Eq.{bytes_eq-Decides}
use Rattle.std.specs.Cmp.Lexicographic.{slice_cmp}
use Rattle.std.specs.Fmt.{digits}
use Rattle.std.specs.List.{AllByRecursion}
use Rattle.std.specs.List.Sorted.{IsStrictlySortedBy}
use Rattle.std.specs.Map.{keys_of}
use Rattle.std.specs.Ordering.{nat_cmp, match_ordering}
use Rattle.pl_state.specs.declared.entry.Entry.{Entry}
use Rattle.pl_state.specs.declared.pending.Pending.{Pending}
use Rattle.pl_state.specs.declared.snapshot.Snapshot.{Snapshot}
use Rattle.serde_json.proofs.OnLiterals.{serde_json_on_literals}
use Rattle.serde_json.proofs.Views.{Entry as Member}
use Rattle.serde_json.specs.Data.{Data, null, string, array, Members, no_members, member, put}
use Rattle.serde_json.specs.View.{items_of, members_view}
use Rattle.serde_json.specs.Written.{compact_text, items_text, members_text, comma_if}
use Rattle.pl_checkpoint_text.specs.Pieces.{ArePieces, entry_text, pending_text, listed, list_text, field_text, fields_text, with_places}
use Rattle.pl_checkpoint_text.specs.Spelled.{checkpoint_data, checkpoint_text, deployment_data, deployment_fields, entries_data, entry_data, pending_data, pendings_data, stack_data, unread_fields, with_manifest}
use Rattle.pl_checkpoint_text.proofs.Fields.{same_key}

abbrev Key : Type 0
Key = List ℕ

-- ---- lists

listed-items : (later : Bool) (ds : List Data) → listed later (map compact_text ds) ++ 93 ∷ [] ≡ items_text later (items_of ds)
listed-items later [] = refl
listed-items later (d ∷ ds) = rw (sym (listed-items true ds)) (simp append_assoc)

-- texts of values, joined to a list, are the text of the values' array
pub list_text-array : (ds : List Data) → list_text (map compact_text ds) ≡ compact_text (array (items_of ds))
list_text-array ds = ap (λ text. 91 ∷ text) (listed-items false ds)

-- ---- members that get another value

-- the members with the value wherever the key stands
abbrev pub set : Key → Data → Members → Members
set key value no_members = no_members
set key value (member own here more) = member own (cond (bytes_eq own key) value here) (set key value more)

same_itself : (key : Key) → bytes_eq key key ≡ true
same_itself key = (bytes_eq-Decides key key).1 refl

-- keys that compare otherwise than equal are not the same
apart_from : (key own : Key) (o : Ordering) → slice_cmp nat_cmp key own ≡ o → is_eq o ≡ false → bytes_eq own key ≡ false
apart_from key own o is other =
    let differ : bytes_eq key own ≡ false = sym (is_eq-slice_cmp key own) ∙ ap is_eq is ∙ other in
    same_key _ own key refl (λ same. let yes : bytes_eq key own ≡ true = (bytes_eq-Decides key own).1 (sym same) in cc)

equal_from : (key own : Key) → slice_cmp nat_cmp key own ≡ Equal → key ≡ own
equal_from key own is = (bytes_eq-Decides key own).0 (sym (is_eq-slice_cmp key own) ∙ ap is_eq is)

-- ---- members whose keys rise

abbrev pub AllAbove : Key → Members → Type 0
AllAbove key no_members = Unit {0}
AllAbove key (member own here more) = (slice_cmp nat_cmp key own ≡ Less) × AllAbove key more

abbrev pub Rising : Members → Type 0
Rising no_members = Unit {0}
Rising (member own here more) = AllAbove own more × Rising more

above_view : (first : Member) (es : List Member) → AllByRecursion (λ key. string_cmp first.0 key ≡ Less) (keys_of es) → AllAbove (string_bytes first.0) (members_view es)
above_view first [] above = tt
above_view first (e ∷ es) above = (above.0, above_view first es above.1)

-- the keys of an object in memory rise
pub rising_view : (es : List Member) → IsStrictlySortedBy string_cmp (keys_of es) → Rising (members_view es)
unfolding IsStrictlySortedBy
rising_view [] sorted = tt
rising_view (e ∷ es) sorted = (above_view e es sorted.0, rising_view es sorted.1)

set-above : (key : Key) (value : Data) (ms : Members) → AllAbove key ms → set key value ms ≡ ms
set-above key value no_members above = refl
set-above key value (member own here more) above =
    let apart = apart_from key own Less above.0 refl in
    rw (apart, set-above key value more above.1) refl

set-put_at : (o : Ordering) (key first : Key) (value other here : Data) (more : Members) → slice_cmp nat_cmp key first ≡ o
    → Rising (match_ordering o (member key other (member first here more)) (member first other more) (member first here (put key other more)))
    → (Rising (put key other more) → set key value (put key other more) ≡ put key value more)
    → set key value (match_ordering o (member key other (member first here more)) (member first other more) (member first here (put key other more)))
    ≡ match_ordering o (member key value (member first here more)) (member first value more) (member first here (put key value more))
set-put_at Less key first value other here more is rising later =
    ap₂ (member key) (ap (λ b. cond b value other) (same_itself key)) (set-above key value (member first here more) rising.0)
set-put_at Equal key first value other here more is rising later =
    let same : key ≡ first = equal_from key first is in
    let own : bytes_eq first key ≡ true = (bytes_eq-Decides first key).1 (sym same) in
    let rest : set first value more ≡ more = set-above first value more rising.0 in
    ap₂ (member first) (ap (λ b. cond b value other) own) (ap (λ k. set k value more) same ∙ rest)
set-put_at Greater key first value other here more is rising later =
    ap₂ (member first) (ap (λ b. cond b value here) (apart_from key first Greater is refl)) (later rising.1)

-- where the keys rise, a value that was put in is replaced by another one as if that had been put in
pub set-put : (key : Key) (value other : Data) (ms : Members) → Rising (put key other ms) → set key value (put key other ms) ≡ put key value ms
set-put key value other no_members rising = ap (λ b. member key (cond b value other) no_members) (same_itself key)
set-put key value other (member first here more) rising =
    set-put_at _ key first value other here more refl rising (set-put key value other more)

set-put_other_at : (o : Ordering) (key own first : Key) (value other here : Data) (more : Members) → slice_cmp nat_cmp own first ≡ o → bytes_eq own key ≡ false
    → set key value (put own other more) ≡ put own other (set key value more)
    → set key value (match_ordering o (member own other (member first here more)) (member first other more) (member first here (put own other more)))
    ≡ match_ordering o (member own other (set key value (member first here more))) (member first other (set key value more)) (member first (cond (bytes_eq first key) value here) (put own other (set key value more)))
set-put_other_at Less key own first value other here more is apart later =
    ap (λ b. member own (cond b value other) (set key value (member first here more))) apart
set-put_other_at Equal key own first value other here more is apart later =
    let same : own ≡ first = equal_from own first is in
    let first_apart : bytes_eq first key ≡ false = ap (λ k. bytes_eq k key) (sym same) ∙ apart in
    ap (λ b. member first (cond b value other) (set key value more)) first_apart
set-put_other_at Greater key own first value other here more is apart later =
    ap (member first (cond (bytes_eq first key) value here)) later

-- a value that is put in under another key is not replaced
pub set-put_other : (key own : Key) (value other : Data) (ms : Members) → bytes_eq own key ≡ false
    → set key value (put own other ms) ≡ put own other (set key value ms)
set-put_other key own value other no_members apart = ap (λ b. member own (cond b value other) no_members) apart
set-put_other key own value other (member first here more) apart =
    set-put_other_at _ key own first value other here more refl apart (set-put_other key own value other more apart)

above_before : (bound key : Key) (value : Data) (ms : Members) → AllAbove bound (put key value ms) → AllAbove bound ms
above_before bound key value no_members above = tt
above_before bound key value (member first here more) above = at _ above (above_before bound key value more)
  where
    at : (o : Ordering) → AllAbove bound (match_ordering o (member key value (member first here more)) (member first value more) (member first here (put key value more)))
        → (AllAbove bound (put key value more) → AllAbove bound more) → AllAbove bound (member first here more)
    at Less h later = h.1
    at Equal h later = h
    at Greater h later = (h.0, later h.1)

-- where the keys rise once a value was put in, they did before
pub rising_before : (key : Key) (value : Data) (ms : Members) → Rising (put key value ms) → Rising ms
rising_before key value no_members rising = tt
rising_before key value (member first here more) rising = at _ rising (rising_before key value more)
  where
    at : (o : Ordering) → Rising (match_ordering o (member key value (member first here more)) (member first value more) (member first here (put key value more)))
        → (Rising (put key value more) → Rising more) → Rising (member first here more)
    at Less h later = h.1
    at Equal h later = h
    at Greater h later = (above_before first key value more h.0, later h.1)

-- ---- the members with two lists

abbrev pub pending_key : Key
pending_key = codes "pending_operations"

abbrev pub resources_key : Key
resources_key = codes "resources"

-- two values that were put in are replaced by others
pub set_both : (pending resources : Data) (ms : Members) → Rising (put resources_key null (put pending_key null ms))
    → set pending_key pending (set resources_key resources (put resources_key null (put pending_key null ms))) ≡ put resources_key resources (put pending_key pending ms)
set_both pending resources ms rising =
    ap (set pending_key pending) (set-put resources_key resources null (put pending_key null ms) rising)
    ∙ set-put_other pending_key resources_key pending resources (put pending_key null ms) refl
    ∙ ap (put resources_key resources) (set-put pending_key pending null ms (rising_before resources_key null (put pending_key null ms) rising))

text_under : (is_pending is_resources : Bool) (entries pendings : List Key) (pending resources value : Data)
    → list_text pendings ≡ compact_text pending → list_text entries ≡ compact_text resources
    → cond is_pending (list_text pendings) (cond is_resources (list_text entries) (compact_text value))
    ≡ compact_text (cond is_pending pending (cond is_resources resources value))
text_under true is_resources entries pendings pending resources value p r = p
text_under false true entries pendings pending resources value p r = r
text_under false false entries pendings pending resources value p r = refl

closed : (comma key text more : List ℕ) → comma ++ (key ++ 58 ∷ (text ++ more)) ++ 125 ∷ [] ≡ comma ++ (key ++ 58 ∷ (text ++ (more ++ 125 ∷ [])))
closed comma key text more = simp append_assoc

-- members with joined texts are the text of the members with the values of these texts
pub fields_text-members : (entries pendings : List Key) (pending resources : Data) → list_text pendings ≡ compact_text pending → list_text entries ≡ compact_text resources
    → (later : Bool) (ms : Members) → fields_text entries pendings later ms ++ 125 ∷ [] ≡ members_text later (set pending_key pending (set resources_key resources ms))
fields_text-members entries pendings pending resources p r later no_members = refl
fields_text-members entries pendings pending resources p r later (member key value more) =
    closed (comma_if later) (compact_text (string key)) (field_text entries pendings key value) (fields_text entries pendings true more)
    ∙ ap₂ (λ text rest. comma_if later ++ (compact_text (string key) ++ 58 ∷ (text ++ rest)))
    (text_under (bytes_eq key pending_key) (bytes_eq key resources_key) entries pendings pending resources value p r)
    (fields_text-members entries pendings pending resources p r true more)

-- ---- the whole checkpoint

entries_from : (entries : List Entry) → list_text (map entry_text entries) ≡ compact_text (entries_data entries)
unfolding entry_text entries_data
entries_from entries = ap list_text (map-map entries) ∙ list_text-array (map entry_data entries)
  where
    map-map : (es : List Entry) → map entry_text es ≡ map compact_text (map entry_data es)
    map-map [] = refl
    map-map (e ∷ es) = ap (λ texts. entry_text e ∷ texts) (map-map es)

pendings_from : (operations : List Pending) → list_text (map pending_text operations) ≡ compact_text (pendings_data operations)
unfolding pending_text pendings_data
pendings_from operations = ap list_text (map-map operations) ∙ list_text-array (map pending_data operations)
  where
    map-map : (os : List Pending) → map pending_text os ≡ map compact_text (map pending_data os)
    map-map [] = refl
    map-map (o ∷ os) = ap (λ texts. pending_text o ∷ texts) (map-map os)

-- the members of the deployment, its lists as the given texts
deployment_from : (state : Snapshot) (entries pendings : List Key) → map entry_text state.entries ≡ entries → map pending_text state.pending ≡ pendings
    → Rising (with_places (unread_fields state.rest))
    → 123 ∷ (fields_text entries pendings false (with_places (unread_fields state.rest)) ++ 125 ∷ []) ≡ compact_text (deployment_data state)
unfolding deployment_data deployment_fields
deployment_from state entries pendings are_entries are_pendings rising =
    ap (λ text. 123 ∷ text) (
    fields_text-members entries pendings (pendings_data state.pending) (entries_data state.entries)
    (ap list_text (sym are_pendings) ∙ pendings_from state.pending) (ap list_text (sym are_entries) ∙ entries_from state.entries)
    false (with_places (unread_fields state.rest))
    ∙ ap (members_text false) (set_both (pendings_data state.pending) (entries_data state.entries) (with_manifest (unread_fields state.rest)) rising))

frame : (first deployment second stack third : Key)
    → ((((first ++ (123 ∷ [])) ++ deployment) ++ (125 ∷ second)) ++ stack) ++ (125 ∷ third) ≡ first ++ ((123 ∷ (deployment ++ 125 ∷ [])) ++ (second ++ (stack ++ 125 ∷ third)))
frame first deployment second stack third = simp append_assoc

nested : (deployment second stack third : Key) → deployment ++ (second ++ (stack ++ 125 ∷ third)) ≡ (deployment ++ (second ++ (stack ++ 125 ∷ []))) ++ third
nested deployment second stack third = simp append_assoc

framed : (state : Snapshot) → codes "{\"checkpoint\":{\"latest\":" ++ (compact_text (deployment_data state) ++ (codes ",\"stack\":" ++ (compact_text (string state.stack) ++ 125 ∷ codes ",\"version\":3}"))) ≡ checkpoint_text state
unfolding checkpoint_text checkpoint_data stack_data serde_json_on_literals digits
framed state =
    ap (λ text. codes "{\"checkpoint\":{\"latest\":" ++ text)
    (nested (compact_text (deployment_data state)) (codes ",\"stack\":") (compact_text (string state.stack)) (codes ",\"version\":3}"))

-- the pieces of a state, joined, are its text
pub joined : (state : Snapshot) (stack rest : Key) (entries pendings : List Key) → ArePieces stack rest entries pendings state → Rising (with_places (unread_fields rest))
    → (((codes "{\"checkpoint\":{\"latest\":{" ++ fields_text entries pendings false (with_places (unread_fields rest))) ++ codes "},\"stack\":") ++ compact_text (string stack)) ++ codes "},\"version\":3}"
    ≡ checkpoint_text state
joined state stack rest entries pendings are rising =
    let Rises : Key → Type 0 = λ text. Rising (with_places (unread_fields text)) in
    ap₂ (λ name text. (((codes "{\"checkpoint\":{\"latest\":{" ++ fields_text entries pendings false (with_places (unread_fields text))) ++ codes "},\"stack\":") ++ compact_text (string name)) ++ codes "},\"version\":3}")
    (sym are.stack) (sym are.rest)
    ∙ frame (codes "{\"checkpoint\":{\"latest\":") (fields_text entries pendings false (with_places (unread_fields state.rest))) (codes ",\"stack\":") (compact_text (string state.stack)) (codes ",\"version\":3}")
    ∙ ap (λ text. codes "{\"checkpoint\":{\"latest\":" ++ (text ++ (codes ",\"stack\":" ++ (compact_text (string state.stack) ++ 125 ∷ codes ",\"version\":3}"))))
    (deployment_from state entries pendings are.entries are.pendings (subst Rises (sym are.rest) rising))
    ∙ framed state

-- what a call gave, where it gave something, has a fact that follows from what is known of it
pub from_ok : {A E : Type 0} {P Q : A → Type 0} (result : Result A E) → IfOk result P → ((made : A) → P made → Q made) → IfOk result Q
from_ok (Ok made) known follows = follows made known
from_ok (Err error) known follows = tt
