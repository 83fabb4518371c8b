use Rattle.std.proofs.Common.{◌≡◌, Some, None, option_and_then, sym, ap, ◌∙◌}
use Rattle.serde_json.specs.Find.{as_object}
use Rattle.serde_json.specs.Read.{read}
use Rattle.serde_json.specs.View.{view, members_view}
use Rattle.pl_checkpoint_text.specs.Spelled.{unread_fields, whole_members}
use Rattle.pl_checkpoint_text.proofs.Reading.{whole_members-unwrap_or}
use Rattle.pl_checkpoint_text.proofs.unread.unread_in.Goals as goal

pub returns-in-Ok : goal.returns-in-Ok
unfolding unread_fields
returns-in-Ok c =
    let reads : read c.args.text.now ≡ Some (view c.in-Ok.value) = ap read (sym c.as_str.ensures) ∙ c.in-Ok.ensures.ok in
    c.whole_or_none.ensures ∙ ap (λ ms. whole_members (Some ms)) c.take_members.ensures
    ∙ whole_members-unwrap_or (as_object (view c.in-Ok.value))
    ∙ ap (λ found. whole_members (option_and_then as_object found)) (sym reads)

pub returns-else-is_memory : goal.returns-else-is_memory
unfolding unread_fields
returns-else-is_memory c =
    let reads : read c.args.text.now ≡ None =
    ap read (sym c.as_str.ensures) ∙ c.in-Err.ensures.err (λ memory. let told = c.is_memory.ensures.1 memory in let other = c.if-is_memory.false in cc) in
    ap members_view c.new.ensures.empty ∙ ap (λ found. whole_members (option_and_then as_object found)) (sym reads)
