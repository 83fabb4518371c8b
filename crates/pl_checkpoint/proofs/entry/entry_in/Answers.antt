use Rattle.std.proofs.Common.{◌≡◌, ℕ, List, Some, ap, sym, ◌∙◌, subst, rules}
use Rattle.pl_state.specs.declared.entry.Entry.{Entry}
use Rattle.serde_json.specs.Find.{as_object}
use Rattle.serde_json.specs.View.{view, members_view}
use Rattle.pl_checkpoint.proofs.EntryParts.{entry_of-parts}
use Rattle.pl_checkpoint_text.specs.Read.{Tells}
use Rattle.pl_checkpoint_text.specs.ReadEntry.{entry_in, entry_of}
use Rattle.pl_checkpoint_text.specs.ReadField.{Reading, ◌>>=◌, of_kind}
use Rattle.pl_checkpoint.specs.ReadParts.{entry_by_parts}
use Rattle.pl_checkpoint.proofs.entry.entry_in.Goals as goal

pub returns-in-Some : goal.returns-in-Some
returns-in-Some c =
    let path = c.args.path in
    let ms = members_view c.in-Some.members.now.entries in
    let found : as_object (view c.args.value.now) ≡ Some ms = search rules in
    let same : entry_by_parts path ms ≡ entry_in path (view c.args.value.now) =
    entry_of-parts path ms ∙ ap (λ ds. of_kind path ds >>= entry_of path) (sym found) in
    subst (λ (told : Reading Entry). Tells told c.entry_of.result) same (subst (λ (at : List ℕ). Tells (entry_by_parts at ms) c.entry_of.result) c.as_str.ensures c.entry_of.ensures)
