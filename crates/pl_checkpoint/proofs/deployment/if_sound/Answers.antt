use Rattle.std.proofs.Common.{◌≡◌, ap, subst, rules}
use Rattle.pl_checkpoint_text.proofs.FirstUnsound.{first_unsound-none, first_unsound-some}
use Rattle.pl_sound.specs.Sound.{IsFirstFault, TellsFault}
use Rattle.pl_state.specs.declared.fault.UnsoundOrMemory.TheVariants.{Unsound}
use Rattle.pl_checkpoint_text.specs.Read.{unless_unsound}
use Rattle.pl_checkpoint.proofs.deployment.if_sound.Goals as goal

pub returns-in-Ok : goal.returns-in-Ok
returns-in-Ok c = ap (unless_unsound c.args.state) (first_unsound-none c.args.state.entries c.in-Ok.ensures.sound)

pub returns-in-Err-Unsound : goal.returns-in-Err-Unsound
returns-in-Err-Unsound c =
    let fault = c.in-Err-Unsound.fault in
    let same : c.in-Err-Unsound.field-0 ≡ Unsound fault = search rules in
    let first : IsFirstFault c.args.state.entries fault.at fault.missing = subst (TellsFault c.args.state.entries) same c.in-Err-Unsound.ensures.unsound in
    ap (unless_unsound c.args.state) (first_unsound-some c.args.state.entries fault.at fault.missing first)
