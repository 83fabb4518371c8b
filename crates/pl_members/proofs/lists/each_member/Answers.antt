use Rattle.std.proofs.Common.{◌≡◌, [], ◌∷◌, ◌++◌, Some, string_bytes, sym, ap, ◌∙◌, rules}
use Rattle.serde_json.proofs.Views.{Entry}
use Rattle.serde_json.specs.View.{view, members_view}
use Rattle.pl_members.specs.Field.{each_member, texts_of}
use Rattle.pl_members.proofs.Items.{after, each_member-next}
use Rattle.pl_members.proofs.lists.each_member.Goals as goal

pub loop-key-preserved : goal.loop-key-preserved
loop-key-preserved c =
    let l = c.loop-key in
    let e : Entry = (c.in-Some.key.now, c.in-Some.value.now) in
    let left = c.next.new.self in
    let all : l.key-iterator ≡ e ∷ left = c.in-Some.ensures.steps in
    let named : c.in_ok-key.key ≡ string_bytes e.0 = search rules in
    let read : texts_of (view e.1) ≡ Some c.in_ok-texts.texts = c.in_ok-texts.ensures.read in
    let added : c.push.new.self ≡ l.pairs ++ (c.in_ok-key.key, c.in_ok-texts.texts) ∷ [] = search rules in
    let pushed : c.push.new.self ≡ l.pairs ++ (string_bytes e.0, c.in_ok-texts.texts) ∷ [] = added ∙ ap (λ key. l.pairs ++ (key, c.in_ok-texts.texts) ∷ []) named in
    l.invariant ∙ ap (λ es. after l.pairs (each_member texts_of (members_view es))) all
    ∙ each_member-next e left c.in_ok-texts.texts l.pairs read
    ∙ ap (λ pairs. after pairs (each_member texts_of (members_view left))) (sym pushed)
