use Rattle.std.proofs.Common.{◌≡◌, ℕ, true, false, List, [], ◌∷◌, ◌++◌, Bor, map, string_bytes, sym, ap, ◌∙◌, subst, append_assoc, rules}
use Rattle.serde_json.proofs.Views.{Entry}
use Rattle.serde_json.specs.Data.{put}
use Rattle.serde_json.specs.View.{view, members_view}
use Rattle.pl_checkpoint.proofs.Others.{Rise, other_members-own, other_members-other}
use Rattle.pl_checkpoint_text.specs.Formed.{is_one_of}
use Rattle.pl_checkpoint.proofs.kept.other_members.Goals as goal

pub loop-key-preserved-in_ok-put : goal.loop-key-preserved-in_ok-put
loop-key-preserved-in_ok-put c =
    let l = c.loop-key in
    let keys = map (λ (own : Bor (List ℕ)). own.now) c.args.keys.now in
    let done = l.invariant.0 in
    let e : Entry = (c.in-Some.key.now, c.in-Some.value.now) in
    let left = c.next.new.self in
    let all : c.args.members.now.entries ≡ done ++ e ∷ left = l.invariant.1 ∙ ap (λ es. done ++ es) c.in-Some.ensures.steps in
    let rise : Rise (done ++ e ∷ left) = subst Rise all c.iter-key-items.ensures.ordered in
    let other : is_one_of keys (string_bytes e.0) ≡ false = search rules in
    let copied : view c.in_ok-clone.field-0 ≡ view e.1 = search rules in
    let added : members_view c.put.new.map.entries ≡ put (string_bytes e.0) (view c.in_ok-clone.field-0) (members_view l.others.entries) = search rules in (
      done ++ e ∷ [],
      all ∙ sym (append_assoc done (e ∷ []) left),
      added ∙ ap (λ d. put (string_bytes e.0) d (members_view l.others.entries)) copied
          ∙ ap (put (string_bytes e.0) (view e.1)) l.invariant.2
          ∙ other_members-other keys done e left rise other,
    )

pub loop-key-preserved : goal.loop-key-preserved
loop-key-preserved c =
    let l = c.loop-key in
    let keys = map (λ (own : Bor (List ℕ)). own.now) c.args.keys.now in
    let done = l.invariant.0 in
    let e : Entry = (c.in-Some.key.now, c.in-Some.value.now) in
    let left = c.next.new.self in
    let all : c.args.members.now.entries ≡ done ++ e ∷ left = l.invariant.1 ∙ ap (λ es. done ++ es) c.in-Some.ensures.steps in
    let own : is_one_of keys (string_bytes e.0) ≡ true = search rules in (
      done ++ e ∷ [],
      all ∙ sym (append_assoc done (e ∷ []) left),
      l.invariant.2 ∙ sym (other_members-own keys done e own),
    )
