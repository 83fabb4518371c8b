use Rattle.std.proofs.Common.{ap, ◌∙◌, option_map, unwrap_or, false}
use Rattle.pl_host_msg.specs.Field.{has_no_members, is_empty_object}
use Rattle.pl_host_msg.proofs.Fields.{has_no_members-members_view}
use Rattle.pl_host_msg.proofs.field.is_empty_object.Goals as goal

pub returns-in-Some-as_object : goal.returns-in-Some-as_object
returns-in-Some-as_object c =
    has_no_members-members_view c.in-Some-as_object.members.now.entries _ c.is_empty.ensures
    ∙ ap (λ found. unwrap_or (option_map has_no_members found) false) c.in-Some-as_object.ensures ∙ ap is_empty_object c.in-Some.ensures
