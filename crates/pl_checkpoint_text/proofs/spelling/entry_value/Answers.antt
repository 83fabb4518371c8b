use Rattle.std.proofs.Common.{codes, ap, ap₂, ◌∙◌}
use Rattle.serde_json.proofs.Views.{view-Object}
use Rattle.serde_json.specs.Data.{object, put, string}
use Rattle.pl_json.specs.Objects.{put_if_some}
use Rattle.pl_checkpoint_text.specs.Spelled.{entry_fields, entry_data}
use Rattle.pl_checkpoint_text.proofs.spelling.entry_value.Goals as goal

-- one line for each field, the last one first
pub returns : goal.returns
unfolding entry_data entry_fields
returns c = view-Object c.put_text-2.new.members ∙ ap object (
    c.in_ok-put_text-2.ensures ∙ ap₂ (λ text ms. put (codes "urn") (string text) ms) c.as_str-2.ensures.text (
    c.in_ok-put_text.ensures ∙ ap₂ (λ text ms. put (codes "type") (string text) ms) c.as_str.ensures (
    c.in_ok-put_flag-5.ensures ∙ ap (put_if_some _ _) (
    c.in_ok-put_reference_if_some.ensures ∙ ap (put_if_some _ _) (
    c.in_ok-put_flag-4.ensures ∙ ap (put_if_some _ _) (
    c.in_ok-put_properties.ensures ∙ ap (put_if_some _ _) (
    c.in_ok-put_flag-3.ensures ∙ ap (put_if_some _ _) (
    c.in_ok-put_urn_if_some-2.ensures ∙ ap (put_if_some _ _) (
    c.in_ok-put_values-2.ensures ∙ ap (put_if_some _ _) (
    c.in_ok-put_values.ensures ∙ ap (put_if_some _ _) (
    c.in_ok-put_texts-2.ensures ∙ ap (put_if_some _ _) (
    c.in_ok-put_text_if_some-2.ensures ∙ ap (put_if_some _ _) (
    c.in_ok-put_text_if_some.ensures ∙ ap (put_if_some _ _) (
    c.in_ok-put_flag-2.ensures ∙ ap (put_if_some _ _) (
    c.in_ok-put_urns-2.ensures ∙ ap (put_if_some _ _) (
    c.in_ok-put_urn_if_some.ensures ∙ ap (put_if_some _ _) (
    c.in_ok-put_flag.ensures ∙ ap (put_if_some _ _) (
    c.in_ok-put_bool.ensures ∙ ap (put _ _) (
    c.in_ok-put_urns.ensures ∙ ap (put_if_some _ _) (
    c.in_ok-put_texts.ensures ∙ ap (put_if_some _ _) (
    c.in_ok-fields.ensures)))))))))))))))))))))
