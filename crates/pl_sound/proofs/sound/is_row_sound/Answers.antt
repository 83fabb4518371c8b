use Rattle.std.proofs.Common.{◌≡◌, ◌∙◌, rules, sym}
use Rattle.pl_sound.proofs.Soundness.{finds_all-kinds, finds_kinds}
use Rattle.pl_sound.proofs.sound.is_row_sound.Goals as goal

pub returns-then-has_property_urns : goal.returns-then-has_property_urns
returns-then-has_property_urns c =
    let by_kind : c.is_deleter_met.result ≡ finds_kinds c.args.before.now c.args.row.now = search rules in
    by_kind ∙ sym (finds_all-kinds c.args.before.now c.args.row.now)

pub returns-else-has_property_urns : goal.returns-else-has_property_urns
returns-else-has_property_urns c =
    let by_kind : c.if-has_urns.value ≡ finds_kinds c.args.before.now c.args.row.now = search rules in
    by_kind ∙ sym (finds_all-kinds c.args.before.now c.args.row.now)
