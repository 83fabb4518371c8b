-- The text of a state tells the state: it reads as the state's data, and the data has every field.
use Rattle.std.proofs.Common.{◌≡◌, ℕ, true, if◌then◌else◌, List, map, Option, Some, None, is_some, option_and_then, codes, refl, sym, ap, ap₂, ◌∙◌}
use Rattle.std.proofs.lemmas.List.Elements.{recursion_from_All}
use Rattle.std.specs.List.{list_all}
use Rattle.pl_json.proofs.TextTells.{text_tells_data}
use Rattle.pl_value.specs.Keys.{keys_of}
use Rattle.pl_state.specs.declared.entry.Entry.{Entry}
use Rattle.pl_state.specs.declared.pending.Pending.{Pending}
use Rattle.pl_state.specs.declared.snapshot.Snapshot.{Snapshot}
use Rattle.serde_json.specs.Data.{Data, object, Members}
use Rattle.serde_json.specs.Find.{as_object, get_member}
use Rattle.serde_json.specs.View.{items_of}
use Rattle.pl_checkpoint_text.specs.Formed.{is_one_of, IsFormed}
use Rattle.pl_checkpoint_text.specs.ReadEntry.{other_members}
use Rattle.pl_checkpoint_text.specs.Laws.{AreValued, TextTellsState}
use Rattle.pl_json.specs.Objects.{with_fields}
use Rattle.pl_checkpoint_text.specs.Spelled.{unread_fields, with_manifest, entry_data, entries_data, pending_data, pendings_data, deployment_fields, deployment_data, stack_data, checkpoint_data, checkpoint_text}
use Rattle.pl_checkpoint_text.proofs.EntryTells.{get_member-own, other_members-own, same_rest, same_entries, same_pendings}
use Rattle.pl_checkpoint_text.proofs.Fields.{found}
use Rattle.pl_checkpoint_text.proofs.Wholes.{checkpoint_wholes}

pub own_keys : (state : Snapshot) → list_all (λ field. is_one_of (keys_of (deployment_fields state)) field.0) (deployment_fields state) ≡ true
unfolding deployment_fields
own_keys state = refl

same_keys : (one two : Snapshot) → keys_of (deployment_fields one) ≡ keys_of (deployment_fields two)
unfolding deployment_fields
same_keys one two = refl

-- a manifest that is there is not put in
there : (manifest : Option Data) (ms without_one : Members) → is_some (option_and_then as_object manifest) ≡ true
    → (if is_some manifest then ms else without_one) ≡ ms
there None ms without_one is = absurd (cc)
there (Some manifest) ms without_one is = refl

pub with_manifest-there : (state : Snapshot) → IsFormed state → with_manifest (unread_fields state.rest) ≡ unread_fields state.rest
with_manifest-there state formed = there (get_member (codes "manifest") (unread_fields state.rest)) (unread_fields state.rest) _ formed.manifest

abbrev written : Snapshot → Members
written state = with_fields (deployment_fields state) (unread_fields state.rest)

deployment_data-written : (state : Snapshot) → IsFormed state → deployment_data state ≡ object (written state)
unfolding deployment_data
deployment_data-written state formed = ap (λ unread. object (with_fields (deployment_fields state) unread)) (with_manifest-there state formed)

same_unread : (one two : Snapshot) → IsFormed one → IsFormed two → written one ≡ written two → unread_fields one.rest ≡ unread_fields two.rest
same_unread one two formed formed' same =
    sym (other_members-own (deployment_fields one) (unread_fields one.rest) formed.rest.other (own_keys one))
    ∙ ap₂ other_members (same_keys one two) same
    ∙ other_members-own (deployment_fields two) (unread_fields two.rest) formed'.rest.other (own_keys two)

same_at : (one two : Snapshot) → IsFormed one → IsFormed two → written one ≡ written two
    → (key : List ℕ) → is_one_of (keys_of (deployment_fields one)) key ≡ true → found (deployment_fields one) key None ≡ found (deployment_fields two) key None
same_at one two formed formed' same key own =
    sym (get_member-own (deployment_fields one) (unread_fields one.rest) key formed.rest.other own)
    ∙ ap (get_member key) same
    ∙ get_member-own (deployment_fields two) (unread_fields two.rest) key formed'.rest.other (sym (ap (λ keys. is_one_of keys key) (same_keys one two)) ∙ own)

same_entries_items : (one two : Snapshot) → IsFormed one → IsFormed two → written one ≡ written two
    → items_of (map entry_data one.entries) ≡ items_of (map entry_data two.entries)
unfolding deployment_fields entries_data
same_entries_items one two formed formed' same = let r = same_at one two formed formed' same (codes "resources") refl in cc

same_pendings_items : (one two : Snapshot) → IsFormed one → IsFormed two → written one ≡ written two
    → items_of (map pending_data one.pending) ≡ items_of (map pending_data two.pending)
unfolding deployment_fields pendings_data
same_pendings_items one two formed formed' same = let r = same_at one two formed formed' same (codes "pending_operations") refl in cc

same_record : (one two : Snapshot) → one.stack ≡ two.stack → one.entries ≡ two.entries → one.pending ≡ two.pending → one.rest ≡ two.rest → one ≡ two
same_record one two a b c d =
    let same : made one.stack one.entries one.pending one.rest ≡ made two.stack two.entries two.pending two.rest = cc in same
  where
    made : List ℕ → List Entry → List Pending → List ℕ → Snapshot
    made stack entries pending rest = record { stack = stack; entries = entries; pending = pending; rest = rest }

same_state : (one two : Snapshot) → IsFormed one → IsFormed two → AreValued one → AreValued two → checkpoint_data one ≡ checkpoint_data two → one ≡ two
unfolding checkpoint_data stack_data deployment_fields
same_state one two formed formed' valued valued' same =
    let stack : one.stack ≡ two.stack = cc in
    let deployment : deployment_data one ≡ deployment_data two = cc in
    let objects : object (written one) ≡ object (written two) =
    sym (deployment_data-written one formed) ∙ deployment ∙ deployment_data-written two formed' in
    let ms : written one ≡ written two = cc in
    let entries = same_entries one.entries two.entries
    (recursion_from_All _ one.entries formed.entries) (recursion_from_All _ two.entries formed'.entries)
    (recursion_from_All _ one.entries valued.entries) (recursion_from_All _ two.entries valued'.entries)
    (same_entries_items one two formed formed' ms) in
    let pending = same_pendings one.pending two.pending
    (recursion_from_All _ one.pending formed.pending) (recursion_from_All _ two.pending formed'.pending)
    (recursion_from_All _ one.pending valued.pending) (recursion_from_All _ two.pending valued'.pending)
    (same_pendings_items one two formed formed' ms) in
    let rest = same_rest (keys_of (deployment_fields one)) one.rest two.rest formed.rest formed'.rest (same_unread one two formed formed' ms) in
    same_record one two stack entries pending rest

same_data : (one two : Snapshot) → IsFormed one → IsFormed two → AreValued one → AreValued two → checkpoint_text one ≡ checkpoint_text two → checkpoint_data one ≡ checkpoint_data two
unfolding checkpoint_text
same_data one two formed formed' valued valued' same =
    text_tells_data (checkpoint_data one) (checkpoint_data two) (checkpoint_wholes one formed valued) (checkpoint_wholes two formed' valued') same

pub text_tells_state : TextTellsState
text_tells_state state other formed formed' valued valued' same =
    same_state state other formed formed' valued valued' (same_data state other formed formed' valued valued' same)
