use Rattle.std.proofs.Common.{◌≡◌, Ok, Err, codes, subst, sym, rules}
use Rattle.pl_state.specs.declared.snapshot.Snapshot.{Snapshot}
use Rattle.serde_json.specs.View.{items_view, members_view}
use Rattle.pl_checkpoint.proofs.DeploymentRead.{AreParts, deployment_of-parts, deployment_of-stops}
use Rattle.pl_checkpoint_text.specs.Read.{Tells, TellsFault, deployment_of}
use Rattle.pl_checkpoint_text.specs.ReadEntry.{entry_in, pending_in}
use Rattle.pl_checkpoint_text.specs.ReadField.{Reading, elements, field_path}
use Rattle.pl_checkpoint.proofs.deployment.deployment_of.Goals as goal

pub returns-in_err-pending : goal.returns-in_err-pending
returns-in_err-pending c =
    let path = c.args.path.now in
    let ms = members_view c.args.members.now.entries in
    let resources = items_view c.in_ok-resources.resources.now in
    let operations = items_view c.in_ok-operations.operations.now in
    let entries : elements entry_in (field_path path (codes "resources")) 0 resources ≡ Ok c.in_ok-entries.entries = search rules in
    let parts : AreParts path ms resources operations _ c.in_ok-rest.rest c.in_ok-entries.entries = record {
      resources_read = c.in_ok-resources.ensures;
      operations_read = c.in_ok-operations.ensures;
      manifest_read = c.in_ok-members_if_some.ensures;
      within = c.in_ok-check_count.ensures;
      rest_read = c.in_ok-rest.ensures;
      entries_read = entries;
    } in
    let refused : TellsFault (elements pending_in (field_path path (codes "pending_operations")) 0 operations) c.in_err-pending.field-0.0 = search rules in
    let same : Err c.in_err-pending.field-0.0 ≡ c.from_residual-in_err-pending.result = search rules in
    subst (Tells (deployment_of path c.args.stack ms)) same
    (deployment_of-stops path c.args.stack ms resources operations _ c.in_ok-rest.rest c.in_ok-entries.entries c.in_err-pending.field-0.0 parts refused)

pub returns : goal.returns
returns c =
    let path = c.args.path.now in
    let ms = members_view c.args.members.now.entries in
    let resources = items_view c.in_ok-resources.resources.now in
    let operations = items_view c.in_ok-operations.operations.now in
    let entries : elements entry_in (field_path path (codes "resources")) 0 resources ≡ Ok c.in_ok-entries.entries = search rules in
    let pending : elements pending_in (field_path path (codes "pending_operations")) 0 operations ≡ Ok c.in_ok-pending.pending = search rules in
    let parts : AreParts path ms resources operations _ c.in_ok-rest.rest c.in_ok-entries.entries = record {
      resources_read = c.in_ok-resources.ensures;
      operations_read = c.in_ok-operations.ensures;
      manifest_read = c.in_ok-members_if_some.ensures;
      within = c.in_ok-check_count.ensures;
      rest_read = c.in_ok-rest.ensures;
      entries_read = entries;
    } in
    subst (λ (told : Reading Snapshot). Tells told c.if_sound.result)
    (sym (deployment_of-parts path c.args.stack ms resources operations _ c.in_ok-rest.rest c.in_ok-entries.entries c.in_ok-pending.pending parts pending))
    c.if_sound.ensures
