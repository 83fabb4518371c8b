use Rattle.std.proofs.Common.{[], ◌∷◌, refl}
use Rattle.pl_checkpoint_text.proofs.Utf8.{added_ascii}
use Rattle.pl_checkpoint_text.proofs.joining.push_comma_if.Goals as goal

pub returns-in_ok-extend-clause-utf8 : goal.returns-in_ok-extend-clause-utf8
returns-in_ok-extend-clause-utf8 c = added_ascii c.args.out.now (44 ∷ []) c.extend.new.self c.in_ok-extend.ensures.added refl
