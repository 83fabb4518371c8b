use Rattle.std.proofs.Common.{sym, subst}
use Rattle.std.proofs.lemmas.Result.{err_from_is_err_and}
use Rattle.pl_state.specs.declared.entry.Entry.{Entry}
use Rattle.std.proofs.Common.{Result}
use Rattle.serde_json.specs.View.{members_view}
use Rattle.pl_checkpoint.proofs.Told.{stop}
use Rattle.pl_checkpoint_text.specs.Read.{Tells, TellsFault}
use Rattle.pl_checkpoint.specs.ReadParts.{entry_by_parts, last_of}
use Rattle.pl_checkpoint_text.specs.declared.fault.ReadFault.{ReadFault}
use Rattle.pl_checkpoint.proofs.entry.entry_of.Goals as goal

pub returns-in_err-last : goal.returns-in_err-last
unfolding entry_by_parts
returns-in_err-last c =
    let told = err_from_is_err_and c.from_residual-in_err-last.result c.from_residual-in_err-last.ensures.1 in
    let at : TellsFault (last_of c.args.path.now (members_view c.args.members.now.entries)) told.0 =
    subst (λ (fault : ReadFault). TellsFault (last_of c.args.path.now (members_view c.args.members.now.entries)) fault) (sym told.2) c.in_err-last.ensures in
    let step : TellsFault (entry_by_parts c.args.path.now (members_view c.args.members.now.entries)) told.0 =
    rw (c.in_ok-named.ensures, c.in_ok-placed.ensures, c.in_ok-linked.ensures, c.in_ok-further.ensures) (stop _ _ _ at) in
    subst (λ (answer : Result Entry ReadFault). Tells (entry_by_parts c.args.path.now (members_view c.args.members.now.entries)) answer) (sym told.1) step
