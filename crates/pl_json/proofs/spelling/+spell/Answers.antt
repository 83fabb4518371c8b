use Rattle.std.proofs.Common.{◌≡◌, true, rules, sym, ap, ◌∙◌}
use Rattle.pl_value.specs.IsValue.{is_value, are_values, are_fields}
use Rattle.pl_value.specs.declared.value.Value.{the_lemmas}
use Rattle.pl_value.proofs.Levels.{is_value-List, is_value-Object, is_value-Secret}
use Rattle.serde_json.specs.Data.{object}
use Rattle.serde_json.proofs.Views.{view-Object}
use Rattle.pl_json.specs.Spelled.{spelled, spelled_fields}
use Rattle.pl_json.proofs.Levels.{spelled-Object}
use Rattle.pl_json.proofs.Members.{spelled_members-next}
use Rattle.pl_json.proofs.NoFloat.{has_float-spelled}
use Rattle.pl_json.proofs.spelling.+spell.Goals as goal

pub spell-spell_items-requires : goal.spell-spell_items-requires
spell-spell_items-requires t c =
    let sound : are_values c.as_slice.result.now ≡ true = cc (is_value-List c.in-List.values) in
    (search (rules, the_lemmas), sound)

pub spell-spell_members-requires : goal.spell-spell_members-requires
spell-spell_members-requires t c =
    let sound : are_fields c.as_slice-in-Object.result.now ≡ true = cc (is_value-Object c.in-Object.fields) in
    (search (rules, the_lemmas), sound)

pub spell-spell-requires : goal.spell-spell-requires
spell-spell-requires t c =
    let sound : is_value c.get.result.now ≡ true = cc (is_value-Secret c.in-Secret.inner) in
    (search (rules, the_lemmas), sound)

pub spell-spell_secret-requires : goal.spell-spell_secret-requires
spell-spell_secret-requires t c = rw c.in_ok-spell-in-Secret.ensures (has_float-spelled c.get.result.now)

pub spell-returns-in_ok-spell_members-in-Object : goal.spell-returns-in_ok-spell_members-in-Object
spell-returns-in_ok-spell_members-in-Object t c =
    view-Object c.in_ok-spell_members-in-Object.field-0 ∙ ap object c.in_ok-spell_members-in-Object.ensures
    ∙ ap spelled_fields c.as_slice-in-Object.ensures ∙ sym (spelled-Object c.in-Object.fields) ∙ ap spelled (sym c.in-Object.is)

pub spell_members-loop-key-preserved : goal.spell_members-loop-key-preserved
spell_members-loop-key-preserved t c =
    let next = spelled_members-next c.args.fields.now c.loop-key.key-index c.loop-key-item.result c.loop-key-test.true c.loop-key-item.is c.requires in
    rw (c.in_ok-put.ensures.ok, c.as_str.ensures, c.in_ok-member.ensures, c.loop-key.invariant) next
