use Rattle.std.proofs.Common.{codes, ap, ap₂, ◌∙◌}
use Rattle.pl_json.specs.Objects.{put_if_some}
use Rattle.pl_members.specs.Spelled.{one_text}
use Rattle.pl_host_word.proofs.wording.put_early_read.Goals as goal

-- one line for each field, the last one first
pub returns : goal.returns
returns c =
    c.in_ok-put_pairs.ensures ∙ ap (put_if_some _ _) (
    c.in_ok-put_text.ensures ∙ ap₂ (λ text ms. put_if_some (codes "id") (one_text text) ms) c.as_str.ensures (
    c.in_ok-put_texts.ensures ∙ ap (put_if_some _ _) (
    c.in_ok-put_call.ensures)))
