use Rattle.std.proofs.Common.{◌==◌, sym, ap, ◌∙◌, option_map, unwrap_or, false}
use Rattle.pl_host_msg.specs.Field.{has_no_items, is_empty_list}
use Rattle.pl_host_msg.proofs.Fields.{has_no_items-items_view}
use Rattle.pl_host_msg.proofs.field.is_empty_list.Goals as goal

pub returns-in-Some-as_array : goal.returns-in-Some-as_array
returns-in-Some-as_array c =
    let items = c.in-Some-as_array.items.now in
    c.is_empty.ensures ∙ ap (λ n. n == 0) (items.ok.0) ∙ sym (has_no_items-items_view items.items)
    ∙ ap (λ found. unwrap_or (option_map has_no_items found) false) c.in-Some-as_array.ensures ∙ ap is_empty_list c.in-Some.ensures
