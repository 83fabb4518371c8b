use Rattle.std.proofs.Common.{codes, ap, ap₂, ◌∙◌}
use Rattle.pl_json.specs.Objects.{put_if_some}
use Rattle.pl_members.specs.Spelled.{one_text}
use Rattle.pl_host_word.proofs.wording.put_late.Goals as goal

-- one line for each field, the last one first
pub returns : goal.returns
returns c =
    c.in_ok-put_text_if_some-3.ensures ∙ ap (put_if_some _ _) (
    c.in_ok-put_text-2.ensures ∙ ap₂ (λ text ms. put_if_some (codes "type") (one_text text) ms) c.as_str-2.ensures (
    c.in_ok-put_flag-2.ensures ∙ ap (put_if_some _ _) (
    c.in_ok-put_text_if_some-2.ensures ∙ ap (put_if_some _ _) (
    c.in_ok-put_flag.ensures ∙ ap (put_if_some _ _) (
    c.in_ok-put_keyed.ensures ∙ ap (put_if_some _ _) (
    c.in_ok-put_text_if_some.ensures ∙ ap (put_if_some _ _) (
    c.in_ok-put_text.ensures ∙ ap₂ (λ text ms. put_if_some (codes "name") (one_text text) ms) c.as_str.ensures (
    c.in_ok-put_number.ensures))))))))
