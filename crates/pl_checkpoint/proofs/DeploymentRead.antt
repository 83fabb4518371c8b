-- What is read of a deployment once its parts before the pending operations were read.
use Rattle.std.proofs.Common.{◌≡◌, ℕ, List, Ok, codes, refl, sym, ap, ◌∙◌, subst}
use Rattle.serde_json.specs.Data.{Items, Members, no_items, no_members}
use Rattle.pl_state.specs.declared.entry.Entry.{Entry}
use Rattle.pl_state.specs.declared.pending.Pending.{Pending}
use Rattle.pl_state.specs.declared.snapshot.Snapshot.{Snapshot}
use Rattle.pl_checkpoint.proofs.Told.{stop}
use Rattle.pl_checkpoint_text.specs.Read.{TellsFault, count_of, deployment_keys, deployment_of, if_sound, with_own_manifest, within_limit}
use Rattle.pl_checkpoint_text.specs.ReadEntry.{entry_in, other_members, pending_in, unread_of}
use Rattle.pl_checkpoint_text.specs.ReadField.{Reading, ◌>>=◌, elements, field_path, items_in, members_in, optional}
use Rattle.pl_checkpoint_text.specs.declared.fault.ReadFault.{ReadFault}

-- the parts that were read of a deployment before its pending operations
pub record AreParts (path : List ℕ) (ms : Members) (resources operations : Items) (manifest : Members) (rest : List ℕ) (entries : List Entry) : Type 0 where
  pub resources_read : optional no_items items_in path (codes "resources") ms ≡ Ok resources
  pub operations_read : optional no_items items_in path (codes "pending_operations") ms ≡ Ok operations
  pub manifest_read : optional no_members members_in path (codes "manifest") ms ≡ Ok manifest
  pub within : within_limit (count_of resources operations) ≡ Ok (tt {0})
  pub rest_read : unread_of path (with_own_manifest (other_members deployment_keys ms)) ≡ Ok rest
  pub entries_read : elements entry_in (field_path path (codes "resources")) 0 resources ≡ Ok entries

-- the state of these parts
abbrev of_parts : List ℕ → List ℕ → List Entry → List Pending → Snapshot
of_parts stack rest entries pending = record { stack = stack; entries = entries; pending = pending; rest = rest }

what_is_left : (path stack : List ℕ) (ms : Members) (resources operations : Items) (manifest : Members) (rest : List ℕ) (entries : List Entry)
    → AreParts path ms resources operations manifest rest entries
    → deployment_of path stack ms
    ≡ (elements pending_in (field_path path (codes "pending_operations")) 0 operations >>= λ pending. if_sound (of_parts stack rest entries pending))
unfolding deployment_of
what_is_left path stack ms resources operations manifest rest entries parts =
    rw (parts.resources_read, parts.operations_read, parts.manifest_read, parts.within, parts.rest_read, parts.entries_read) refl

-- the state of the parts is looked at for soundness
pub deployment_of-parts : (path stack : List ℕ) (ms : Members) (resources operations : Items) (manifest : Members) (rest : List ℕ) (entries : List Entry) (pending : List Pending)
    → AreParts path ms resources operations manifest rest entries
    → elements pending_in (field_path path (codes "pending_operations")) 0 operations ≡ Ok pending
    → deployment_of path stack ms ≡ if_sound (record { stack = stack; entries = entries; pending = pending; rest = rest })
deployment_of-parts path stack ms resources operations manifest rest entries pending parts read =
    what_is_left path stack ms resources operations manifest rest entries parts
    ∙ ap (λ (told : Reading (List Pending)). told >>= λ found. if_sound (of_parts stack rest entries found)) read

-- a fault of the pending operations is told
pub deployment_of-stops : (path stack : List ℕ) (ms : Members) (resources operations : Items) (manifest : Members) (rest : List ℕ) (entries : List Entry) (fault : ReadFault)
    → AreParts path ms resources operations manifest rest entries
    → TellsFault (elements pending_in (field_path path (codes "pending_operations")) 0 operations) fault
    → TellsFault (deployment_of path stack ms) fault
deployment_of-stops path stack ms resources operations manifest rest entries fault parts refused =
    subst (λ (told : Reading Snapshot). TellsFault told fault) (sym (what_is_left path stack ms resources operations manifest rest entries parts))
    (stop (elements pending_in (field_path path (codes "pending_operations")) 0 operations) (λ pending. if_sound (of_parts stack rest entries pending)) fault refused)
