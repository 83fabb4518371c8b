use Rattle.std.proofs.Common.{◌≡◌, ◌∙◌, ◌++◌, is_some, List, ap, sym}
use Rattle.pl_columns.specs.Read.{known_by}
use Rattle.pl_decide.specs.declared.problem.Problem.{Problem}
use Rattle.pl_events.specs.declared.event.What.TheVariants.{Answered}
use Rattle.pl_lemmas.specs.Words.{first_in}
use Rattle.pl_model.specs.Problems.{made_problems}
use Rattle.pl_problems.proofs.made.answered_problems.Goals as goal

pub returns : goal.returns
returns c = λ earlier is over.
    let made : c.in_ok-problems.problems.items ≡ made_problems earlier (known_by c.args.columns.now) (Answered c.args.ticket c.args.reply.now) =
    c.in_ok-problems.ensures earlier is in
    let makes : is_some (first_in (made_problems earlier (known_by c.args.columns.now) (Answered c.args.ticket c.args.reply.now))) ≡ c.has_any-makes.result =
    ap (λ (problems : List Problem). is_some (first_in problems)) (sym made ∙ sym c.as_slice.ensures.value) ∙ sym c.has_any-makes.ensures in
    c.in_ok-append.ensures.items
    ∙ (λ i. made i ++ c.in_ok-left.ensures earlier (Answered c.args.ticket c.args.reply.now) over is.problems makes i)
