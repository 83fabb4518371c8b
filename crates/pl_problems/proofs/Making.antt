-- The problems that a told request and a reply make, by what is known after them.
use Rattle.std.proofs.Common.{◌≡◌, ◌==◌, ℕ, List, ◌++◌, filter_map, find, Option, option_and_then, option_map}
use Rattle.pl_decide.specs.declared.problem.Problem.{Problem}
use Rattle.pl_events.specs.declared.event.What.TheVariants.{Answered}
use Rattle.pl_events.specs.declared.reply.Reply.{Reply}
use Rattle.pl_lemmas.specs.Words.{option_list}
use Rattle.pl_model.specs.Known.{Known}
use Rattle.pl_model.specs.Problems.{made_problems, missing_provider, problem_of_closed, refusal_in}
use Rattle.pl_model.specs.Tickets.{closed_by}
use Rattle.pl_problems.specs.Before.{IsBeforeReply}
use Rattle.pl_problems.specs.Since.{decided_since}

-- the refusals since there were so many decisions, and the providers that are missing
abbrev pub refused_since : Known → ℕ → List Problem
refused_since known before = filter_map (λ one. refusal_in one.decision) (decided_since known before)

abbrev pub missing_since : Known → ℕ → List Problem
missing_since known before = filter_map (missing_provider known) (decided_since known before)

-- the problem that a reply is
abbrev pub replied : Known → ℕ → Reply → Option Problem
replied known ticket reply = option_and_then (problem_of_closed known) (closed_by known.history (Answered ticket reply))

module _
    (before : ℕ)
    (earlier later : Known)
    (is : IsBeforeReply before earlier later)
  where
    -- it is read of the run, the goals and what was begun alone
    same_replied : (ticket : ℕ) (reply : Reply) → replied earlier ticket reply ≡ replied later ticket reply
    same_replied ticket reply = λ i.
        option_and_then (problem_of_closed (record earlier { run = is.run i; goals = is.goals i }))
        (option_map (λ about. record { op = about; reply = reply })
        (option_map (λ errand. errand.op) (find (λ errand. errand.ticket == ticket) (is.begun i))))

    pub made_by_reply : (ticket : ℕ) (reply : Reply)
        → made_problems earlier later (Answered ticket reply)
        ≡ refused_since later before ++ (option_list (replied later ticket reply) ++ missing_since later before)
    made_by_reply ticket reply = λ i.
        refused_since later (is.count i) ++ (option_list (same_replied ticket reply i) ++ missing_since later (is.count i))
