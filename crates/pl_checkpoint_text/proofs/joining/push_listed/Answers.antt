use Rattle.std.proofs.Common.{IsUtf8, arith, sym, subst}
use Rattle.std.proofs.lemmas.Grind.{common_steps}
use Rattle.pl_checkpoint_text.proofs.Utf8.{added_utf8}
use Rattle.pl_checkpoint_text.proofs.joining.push_listed.Goals as goal

pub loop-text-preserved : goal.loop-text-preserved
loop-text-preserved c = (
  grind (arith, common_steps),
  λ utf8. added_utf8 c.push_comma_if.new.out c.as_bytes.result.now c.extend.new.self c.in_ok-extend.ensures.added
      (subst IsUtf8 (sym c.as_bytes.ensures.value) c.as_str.utf8)
      (c.in_ok-push_comma_if.ensures.utf8 (c.loop-text.invariant.1 utf8)),
)
