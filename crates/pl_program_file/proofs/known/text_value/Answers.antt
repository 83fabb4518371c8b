use Rattle.std.proofs.Common.{◌≡◌, false, not, bytes_eq, ap, ◌∙◌, sym}
use Rattle.pl_value.proofs.Levels.{is_value-Text, is_value-Unknown}
use Rattle.pl_value.specs.Marks.{unknown_text}
use Rattle.pl_program_file.proofs.known.text_value.Goals as goal

pub returns-then-eq-clause-sound : goal.returns-then-eq-clause-sound
returns-then-eq-clause-sound c = is_value-Unknown

pub returns-clause-sound : goal.returns-clause-sound
returns-clause-sound c =
    let alike : c.as_str-2.result.now ≡ c.as_str.result.now = c.as_str-2.ensures ∙ sym c.as_str.ensures in
    let other : bytes_eq c.as_str-2.result.now unknown_text ≡ false =
    ap (λ t. bytes_eq t unknown_text) alike ∙ ap (λ t. bytes_eq c.as_str.result.now t) (sym c.unknown_text.ensures) ∙ sym c.eq.ensures ∙ c.if-eq.false in
    is_value-Text c.in_ok-text.text ∙ ap (λ t. not (bytes_eq t unknown_text)) c.in_ok-text.ensures ∙ ap not other
