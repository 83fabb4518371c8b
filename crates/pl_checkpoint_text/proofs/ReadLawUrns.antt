-- What was read as a URN is one.
use Rattle.std.proofs.Common.{◌≡◌, ℕ, List, [], All, Option, Some, None, is_none, cond, IfSome, Ok, Err, refl, subst}
use Rattle.std.proofs.lemmas.List.Elements.{All-from_recursion, All-nil}
use Rattle.std.specs.List.{AllByRecursion}
use Rattle.std.specs.Result.{result_map_both}
use Rattle.pl_state.specs.declared.fault.BadCheckpoint.TheVariants.{BadUrn}
use Rattle.pl_urn.specs.Grammar.{IsUrn, urn_fault}
use Rattle.pl_urn.specs.declared.fault.UrnFault.{UrnFault}
use Rattle.serde_json.specs.Data.{Data, Members, no_members, member}
use Rattle.pl_checkpoint_text.specs.ReadField.{Reading, field_path, items_in, members_in, optional, or_default, properties_in, properties_of, required, some_in, some_of, text_in, unless_empty_text, unless_null, urn_in, urn_of, urns_in}
use Rattle.pl_checkpoint_text.proofs.ReadLawFields.{ok_same, bound, proper_member, default_gives, optional_gives, required_gives, object_proper, list_proper, all_elements}
use Rattle.pl_checkpoint_text.proofs.ReadLawProper.{IsProper, MembersAreProper}

-- ---- one

by_fault : (path text made : List ℕ) (fault : Option UrnFault) → urn_fault text ≡ fault → cond (is_none fault) (Ok text) (Err (BadUrn path)) ≡ Ok made → IsUrn made
by_fault path text made None is told = subst IsUrn (ok_same text made told) is
by_fault path text made (Some fault) is told = absurd (cc)

is_urn : (path text made : List ℕ) → urn_of path text ≡ Ok made → IsUrn made
is_urn path text made told = by_fault path text made (urn_fault text) refl told

urn_read : (path : List ℕ) (d : Data) (made : List ℕ) → IsProper d → urn_in path d ≡ Ok made → IsUrn made
urn_read path d made proper told =
    let text = bound (text_in path d) (urn_of path) made told in
    is_urn path text.0 made text.2

some_by : (path : List ℕ) (text : Option (List ℕ)) (made : Option (List ℕ)) → some_of urn_of path text ≡ Ok made → IfSome made IsUrn
some_by path None made told = subst (λ (o : Option (List ℕ)). IfSome o IsUrn) (ok_same None made told) tt
some_by path (Some text) made told = by_reading (urn_of path text) refl told
  where
    by_reading : (one : Reading (List ℕ)) → urn_of path text ≡ one → result_map_both Some (λ why. why) one ≡ Ok made → IfSome made IsUrn
    by_reading (Ok urn) is given = subst (λ (o : Option (List ℕ)). IfSome o IsUrn) (ok_same (Some urn) made given) (is_urn path text urn is)
    by_reading (Err why) is given = absurd (cc)

pub given_urn : (path key text : List ℕ) (ms : Members) → MembersAreProper ms → required urn_in path key ms ≡ Ok text → IsUrn text
given_urn path key text ms proper =
    required_gives IsUrn text urn_in path key ms (λ d found. urn_read (field_path path key) d text (proper_member key ms d proper found))

pub given_some_urn : (path key : List ℕ) (text : Option (List ℕ)) (ms : Members) → optional None (some_in urn_of) path key ms ≡ Ok text → IfSome text IsUrn
given_some_urn path key text ms =
    optional_gives (λ t. IfSome t IsUrn) None text (some_in urn_of) path key ms tt
    (λ d found told. let one = bound (text_in (field_path path key) d) _ _ told in some_by (field_path path key) (unless_empty_text one.0) text one.2)

-- ---- lists

urns_read : (path : List ℕ) (d : Data) (urns : List (List ℕ)) → IsProper d → urns_in path d ≡ Ok urns → All IsUrn urns
urns_read path d urns proper told =
    let items = bound (items_in path d) _ _ told in
    All-from_recursion IsUrn urns (all_elements IsUrn urn_in urn_read path 0 items.0 urns (list_proper path d items.0 proper items.1) items.2)

pub given_urns : (path key : List ℕ) (urns : List (List ℕ)) (ms : Members) → MembersAreProper ms → optional [] urns_in path key ms ≡ Ok urns → All IsUrn urns
given_urns path key urns ms proper =
    optional_gives (All IsUrn) [] urns urns_in path key ms (All-nil IsUrn) (λ d found. urns_read (field_path path key) d urns (proper_member key ms d proper found))

abbrev Pair : Type 0
Pair = List ℕ × List (List ℕ)

abbrev HasUrnsAlone : Pair → Type 0
HasUrnsAlone pair = All IsUrn pair.1

pairs_by : (path : List ℕ) (ms : Members) (pairs : List Pair) → MembersAreProper ms → properties_of path ms ≡ Ok pairs → AllByRecursion HasUrnsAlone pairs
unfolding properties_of
pairs_by path no_members pairs proper told = subst (AllByRecursion HasUrnsAlone) (ok_same [] pairs told) tt
pairs_by path (member key d more) pairs proper told =
    let first = bound (or_default [] (urns_in (field_path path key)) (unless_null (Some d))) _ _ told in
    let others = bound (properties_of path more) _ _ first.2 in
    let urns = default_gives (All IsUrn) [] first.0 (urns_in (field_path path key)) (Some d) (All-nil IsUrn)
    (λ own found. urns_read (field_path path key) own first.0 (subst (λ (o : Option Data). IfSome o IsProper) found proper.0)) first.1 in
    subst (AllByRecursion HasUrnsAlone) (ok_same _ pairs others.2) (urns, pairs_by path more others.0 proper.2 others.1)

pub given_pairs : (path key : List ℕ) (pairs : List Pair) (ms : Members) → MembersAreProper ms → optional [] properties_in path key ms ≡ Ok pairs → All HasUrnsAlone pairs
given_pairs path key pairs ms proper =
    optional_gives (All HasUrnsAlone) [] pairs properties_in path key ms (All-nil HasUrnsAlone)
    (λ d found told.
    let inner = bound (members_in (field_path path key) d) _ _ told in
    All-from_recursion HasUrnsAlone pairs
    (pairs_by (field_path path key) inner.0 pairs (object_proper (field_path path key) d inner.0 (proper_member key ms d proper found) inner.1) inner.2))
