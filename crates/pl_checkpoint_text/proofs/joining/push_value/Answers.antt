use Rattle.std.proofs.Common.{IsUtf8, sym, subst}
use Rattle.std.proofs.lemmas.Result.{on_ok_weaker}
use Rattle.pl_checkpoint_text.proofs.Utf8.{added_utf8}
use Rattle.pl_checkpoint_text.proofs.joining.push_value.Goals as goal

pub returns-clause-utf8 : goal.returns-clause-utf8
returns-clause-utf8 c =
    on_ok_weaker c.extend.result
    (λ added. added_utf8 c.args.out.now c.as_slice.result.now c.extend.new.self added (subst IsUtf8 (sym c.as_slice.ensures.value) c.in_ok-text.ensures.utf8))
    c.extend.ensures.added
