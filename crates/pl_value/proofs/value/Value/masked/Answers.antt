use Rattle.std.proofs.Common.{◌≡◌, true, Result, Ok, Err, IfOk, ap, ◌∙◌}
use Rattle.pl_value.specs.IsValue.{IsValue, is_value}
use Rattle.pl_value.specs.Shown.{masked}
use Rattle.pl_text.specs.declared.memory.OutOfMemory.{OutOfMemory}
use Rattle.pl_value.specs.declared.value.Value.{Value}
use Rattle.pl_value.proofs.Masked.{is_value-masked}
use Rattle.pl_value.proofs.value.Value.masked.Goals as goal

shown_is_value : (one : Value) (r : Result Value OutOfMemory) → is_value one ≡ true → IfOk r (λ shown. shown ≡ masked one) → IfOk r (λ shown. IsValue shown)
shown_is_value one (Ok shown) is same = ap is_value same ∙ is_value-masked one is
shown_is_value one (Err error) is same = tt

pub returns-clause-sound : goal.returns-clause-sound
returns-clause-sound c = shown_is_value c.args.self.now c.masked.result c.requires c.masked.ensures
