use Rattle.std.proofs.Common.{◌≡◌, Option, ap, ◌∙◌}
use Rattle.std.proofs.lemmas.Result.{IfOk-weaker}
use Rattle.pl_columns.specs.Read.{known_by}
use Rattle.pl_entries.specs.Recorded.{recorded_result}
use Rattle.pl_model.specs.Entries.{goal_entry}
use Rattle.pl_model.specs.Known.{Known}
use Rattle.pl_reference.specs.declared.reference.ProviderRef.{ProviderRef}
use Rattle.pl_state.specs.declared.entry.Entry.{Entry}
use Rattle.pl_entries.proofs.recorded.entry_with.Goals as goal

pub returns : goal.returns
returns c =
    let with : Known → Option ProviderRef → Entry =
    λ known provider. record (goal_entry known c.args.goal.now c.args.one.now (recorded_result c.args.recording)) { provider = provider } in
    let Given : Entry → Type 0 = λ made. (known : Known) → made ≡ with known c.in_ok-provider.provider in
    let Whole : Entry → Type 0 =
    λ made. made ≡ goal_entry (known_by c.args.columns.now) c.args.goal.now c.args.one.now (recorded_result c.args.recording) in
    let whole : (made : Entry) → Given made → Whole made =
    λ made given. given (known_by c.args.columns.now) ∙ ap (with (known_by c.args.columns.now)) c.in_ok-provider.ensures in
    IfOk-weaker c.goal_entry.result Given Whole whole c.goal_entry.ensures
