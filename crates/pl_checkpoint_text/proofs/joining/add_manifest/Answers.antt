use Rattle.std.proofs.Common.{◌≡◌, option_map, codes, sym, ap, ◌∙◌}
use Rattle.serde_json.proofs.Views.{view_of_ref, view-lookup, view-Object}
use Rattle.serde_json.specs.Data.{object, put}
use Rattle.serde_json.specs.Find.{get_member}
use Rattle.serde_json.specs.View.{view, members_view}
use Rattle.pl_checkpoint_text.proofs.Reading.{with_manifest-none, with_manifest-some, is_some-none, is_some-some}
use Rattle.pl_checkpoint_text.proofs.joining.add_manifest.Goals as goal

pub returns-in_ok-put : goal.returns-in_ok-put
returns-in_ok-put c =
    let old = c.args.members.now.entries in
    let found : option_map (λ x. view x.now) c.get.result ≡ get_member (codes "manifest") (members_view old) =
    view_of_ref c.get.result ∙ ap (option_map view) c.get.ensures.value ∙ view-lookup (codes "manifest") old in
    let empty = view-Object c.new.result ∙ ap (λ es. object (members_view es)) c.new.ensures.empty in
    c.in_ok-put.ensures.ok ∙ ap (λ d. put (codes "manifest") d (members_view old)) empty
    ∙ sym (with_manifest-none (members_view old) _ found (is_some-none _ c.get.result c.is_none.result c.is_none.ensures c.if-is_none.true))

pub returns-else-is_none : goal.returns-else-is_none
returns-else-is_none c =
    let old = c.args.members.now.entries in
    let found : option_map (λ x. view x.now) c.get.result ≡ get_member (codes "manifest") (members_view old) =
    view_of_ref c.get.result ∙ ap (option_map view) c.get.ensures.value ∙ view-lookup (codes "manifest") old in
    sym (with_manifest-some (members_view old) _ found (is_some-some _ c.get.result c.is_none.result c.is_none.ensures c.if-is_none.false))
