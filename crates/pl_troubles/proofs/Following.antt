-- Each event changes the problems as it changes those of a summary.
use Rattle.std.proofs.Common.{◌≡◌, ℕ, List, [], ◌++◌, Option, Some, None, option_map, refl, sym, ap, ◌∙◌}
use Rattle.std.proofs.lemmas.List.{append_assoc, append-nil, map-append}
use Rattle.pl_decide.specs.declared.problem.Problem.{Problem}
use Rattle.pl_events.specs.declared.event.What.{What}
use Rattle.pl_events.specs.declared.event.What.TheVariants.{Told, HostGone, Begun, Answered, Lost, Kept, Dropped, Cleared, Posted, Stopped}
use Rattle.pl_events.specs.declared.reply.Loss.{Loss}
use Rattle.pl_lemmas.specs.Words.{option_list}
use Rattle.pl_model.specs.History.{known_of}
use Rattle.pl_model.specs.Problems.{at_position, problem_of_end, problem_of_loss, start_problems}
use Rattle.pl_model.specs.Step.{Summary, changed, known_in, summary_of}
use Rattle.pl_model.specs.Tickets.{errand_at}
use Rattle.pl_model.specs.declared.errand.Errand.{Errand}
use Rattle.pl_model.specs.declared.fixed.Fixed.{Fixed}
use Rattle.pl_troubles.specs.Follows.{TroublesFollow, but_problems, ending, making, problems_after, with_all, with_loss}

-- problems in two parts
pub twice : (at : ℕ) (one other : List Problem) (problems : List (ℕ × Problem))
    → problems ++ at_position at (one ++ other) ≡ with_all at other (with_all at one problems)
twice at one other problems =
    ap (λ (more : List (ℕ × Problem)). problems ++ more) (map-append (λ (trouble : Problem). (at, trouble)) one other)
    ∙ sym (append_assoc problems (at_position at one) (at_position at other))

losing : (at : ℕ) (errand : Option Errand) (why : Loss) (problems : List (ℕ × Problem))
    → problems ++ at_position at (option_list (option_map (λ (one : Errand). problem_of_loss one.lane why) errand)) ≡ with_loss at errand why problems
losing at None why problems = append-nil problems
losing at (Some errand) why problems = refl

changing : (run : Fixed) (before : Summary) (seat : ℕ) (what : What)
    → (changed run before seat what).problems ≡ problems_after run before (but_problems before (changed run before seat what)) what before.problems
changing run before seat (Told request) = refl
changing run before seat (HostGone end) =
    twice before.count (option_list (problem_of_end end))
    (ending run before (but_problems before (changed run before seat (HostGone end))) (HostGone end)) before.problems
changing run before seat (Begun ticket lane about) = refl
changing run before seat (Answered ticket reply) =
    twice before.count (making run before (but_problems before (changed run before seat (Answered ticket reply))) (Answered ticket reply))
    (ending run before (but_problems before (changed run before seat (Answered ticket reply))) (Answered ticket reply)) before.problems
changing run before seat (Lost ticket why) =
    losing before.count (errand_at (known_in run before).history ticket) why before.problems
changing run before seat (Kept goal fresh) = refl
changing run before seat (Dropped row) = refl
changing run before seat (Cleared at) = refl
changing run before seat (Posted n) = refl
changing run before seat (Stopped stop) = refl

starting : (run : Fixed) → (summary_of run []).problems ≡ start_problems run
unfolding known_of
starting run = refl

pub troubles-follow : TroublesFollow
troubles-follow = record { none = starting; changes = changing }
