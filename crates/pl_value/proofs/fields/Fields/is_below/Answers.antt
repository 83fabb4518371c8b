use Rattle.std.proofs.Common.{◌≡◌, true, sym, ap, ◌∙◌}
use Rattle.pl_value.specs.Keys.{are_rising, is_below, keys_of, are_all_below}
use Rattle.pl_value.proofs.FieldParts.{Pairs, are_fields-parts}
use Rattle.pl_value.proofs.Rising.{Key, all_below-last}
use Rattle.pl_value.proofs.fields.Fields.is_below.Goals as goal

pub returns-in-Some : goal.returns-in-Some
returns-in-Some c =
    let fields = c.as_slice.result.now in
    let key = c.args.key.now in
    let rising : are_rising (keys_of fields) ≡ true =
    ap (λ (f : Pairs). are_rising (keys_of f)) c.as_slice.ensures ∙ (are_fields-parts c.self.inside.fields c.self.invariant).0 in
    let last = all_below-last fields key c.in-Some.last.now (sym c.in-Some.ensures.value) rising in
    c.is_text_below.ensures ∙ ap (λ (k : Key). is_below k key) c.as_str.ensures ∙ sym last ∙ ap (λ (f : Pairs). are_all_below f key) (c.as_slice.ensures ∙ c.self.view_is)
