use Rattle.std.proofs.Common.{[], ◌∷◌, refl}
use Rattle.std.proofs.lemmas.Result.{on_ok_weaker}
use Rattle.pl_checkpoint_text.proofs.Utf8.{added_ascii}
use Rattle.pl_checkpoint_text.proofs.joining.push_list.Goals as goal

pub returns-clause-utf8 : goal.returns-clause-utf8
returns-clause-utf8 c =
    on_ok_weaker c.extend-2.result
    (λ added utf8. added_ascii c.push_listed.new.out (93 ∷ []) c.extend-2.new.self added refl
    (c.in_ok-push_listed.ensures.utf8 (added_ascii c.args.out.now (91 ∷ []) c.extend.new.self c.in_ok-extend.ensures.added refl utf8)))
    c.extend-2.ensures.added
