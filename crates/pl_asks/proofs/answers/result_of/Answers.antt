use Rattle.std.proofs.Common.{◌≡◌, Bool, ap, sym, ◌∙◌}
use Rattle.std.specs.Option.{option_copied}
use Rattle.pl_asks.proofs.Told.{recorded_told, said_of_known}
use Rattle.pl_asks.specs.Answered.{IsEntryAbout, TellsAnswers}
use Rattle.pl_events.specs.declared.event.Answer.{Answer}
use Rattle.pl_events.specs.declared.event.Answer.TheVariants as answer
use Rattle.pl_events.specs.declared.event.Request.{Request}
use Rattle.pl_model.specs.Known.{Known}
use Rattle.pl_model.specs.Posts.{only_answer, result_of}
use Rattle.pl_asks.proofs.answers.result_of.Goals as goal

pub returns-in-Outputs : goal.returns-in-Outputs
returns-in-Outputs c =
    let Entered : Known → Type 0 = λ known. IsEntryAbout known c.args.request.now c.args.about (option_copied c.args.entry) in
    let said : Known → Answer = λ known. result_of known c.args.request.now c.args.about in
    let same : (known : Known) → TellsAnswers c.args.columns.now known → Entered known
    → only_answer c.is_recorded_about.result answer.Noted ≡ said known =
    λ known tells entered.
    ap (λ (recorded : Bool). only_answer recorded answer.Noted)
    (c.is_recorded_about.ensures ∙ recorded_told c.args.columns.now known tells c.args.about)
    ∙ ap (λ (request : Request). result_of known request c.args.about) (sym c.in-Outputs.is) in
    said_of_known c.args.columns.now c.noted.result (only_answer c.is_recorded_about.result answer.Noted) Entered said same c.noted.ensures
