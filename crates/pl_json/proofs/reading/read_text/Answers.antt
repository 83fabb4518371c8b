use Rattle.std.proofs.Common.{◌≡◌, false, not, bytes_eq, ap, ◌∙◌, sym}
use Rattle.pl_value.proofs.Levels.{is_value-Text, is_value-Unknown}
use Rattle.pl_value.specs.Marks.{unknown_text}
use Rattle.pl_json.proofs.reading.read_text.Goals as goal

pub returns-then-eq-clause-sound : goal.returns-then-eq-clause-sound
returns-then-eq-clause-sound c = is_value-Unknown

pub returns-in-Ok-clause-sound : goal.returns-in-Ok-clause-sound
returns-in-Ok-clause-sound c =
    let other : bytes_eq c.args.text.now unknown_text ≡ false =
    ap (λ t. bytes_eq c.args.text.now t) (sym c.unknown_text.ensures) ∙ sym c.eq.ensures ∙ c.if-eq.false in
    is_value-Text c.in-Ok.text ∙ ap (λ t. not (bytes_eq t unknown_text)) c.in-Ok.ensures ∙ ap not other
