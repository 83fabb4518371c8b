use Rattle.std.proofs.Common.{ap, ◌∙◌}
use Rattle.serde_json.specs.Data.{put}
use Rattle.pl_json.specs.Objects.{put_if_some}
use Rattle.pl_host_word.proofs.wording.put_early.Goals as goal

-- one line for each field, the last one first
pub returns : goal.returns
returns c =
    c.in_ok-put_pairs.ensures ∙ ap (put_if_some _ _) (
    c.in_ok-put_text_if_some-2.ensures ∙ ap (put_if_some _ _) (
    c.in_ok-put_texts-4.ensures ∙ ap (put_if_some _ _) (
    c.in_ok-put_texts-3.ensures ∙ ap (put_if_some _ _) (
    c.in_ok-put_text_if_some.ensures ∙ ap (put_if_some _ _) (
    c.in_ok-put_flag_if_some.ensures ∙ ap (put_if_some _ _) (
    c.in_ok-put_bool.ensures ∙ ap (put _ _) (
    c.in_ok-put_call.ensures ∙ ap (put _ _) (
    c.in_ok-put_texts-2.ensures ∙ ap (put_if_some _ _) (
    c.in_ok-put_texts.ensures)))))))))
