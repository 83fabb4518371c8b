use Rattle.std.proofs.Common.{◌≡◌, [], ◌∷◌, ◌++◌, Some, Ok, string_bytes, sym, ap, ◌∙◌, rules}
use Rattle.serde_json.proofs.Views.{Entry}
use Rattle.serde_json.specs.View.{view, members_view}
use Rattle.pl_checkpoint.proofs.Told.{after, properties_of-next}
use Rattle.pl_checkpoint_text.specs.ReadField.{field_path, or_default, properties_of, unless_null, urns_in}
use Rattle.pl_checkpoint.proofs.lists.properties_of.Goals as goal

pub loop-key-preserved : goal.loop-key-preserved
loop-key-preserved c =
    let l = c.loop-key in
    let base = c.args.path.now in
    let e : Entry = (c.in-Some.key.now, c.in-Some.value.now) in
    let left = c.next.new.self in
    let all : l.key-iterator ≡ e ∷ left = c.in-Some.ensures.steps in
    let named : c.in_ok-key.key ≡ string_bytes e.0 = search rules in
    let path : c.in_ok-path.path ≡ field_path base (string_bytes e.0) = search rules in
    let told : or_default [] (urns_in c.in_ok-path.path) (unless_null (Some (view e.1))) ≡ Ok c.in_ok-urns.urns = c.in_ok-urns.ensures in
    let read : or_default [] (urns_in (field_path base (string_bytes e.0))) (unless_null (Some (view e.1))) ≡ Ok c.in_ok-urns.urns =
    ap (λ at. or_default [] (urns_in at) (unless_null (Some (view e.1)))) (sym path) ∙ told in
    let added : c.push.new.self ≡ l.pairs ++ (c.in_ok-key.key, c.in_ok-urns.urns) ∷ [] = search rules in
    let pushed : c.push.new.self ≡ l.pairs ++ (string_bytes e.0, c.in_ok-urns.urns) ∷ [] = added ∙ ap (λ key. l.pairs ++ (key, c.in_ok-urns.urns) ∷ []) named in
    l.invariant ∙ ap (λ es. after l.pairs (properties_of base (members_view es))) all
    ∙ properties_of-next base e left c.in_ok-urns.urns l.pairs read
    ∙ ap (λ pairs. after pairs (properties_of base (members_view left))) (sym pushed)
