use Rattle.std.proofs.Common.{◌∙◌, None, Some, sym, ap}
use Rattle.std.proofs.lemmas.Result.{IfOk-weaker}
use Rattle.pl_turns.specs.Diffs.{known_diff}
use Rattle.pl_turns.specs.Seen.{seen_turn}
use Rattle.pl_turns.proofs.Nexts.{decided_with_diff, none_decided}
use Rattle.pl_turns.proofs.turn.Turn.decided.Goals as goal

pub returns-in-Awaited-clause-decided : goal.returns-in-Awaited-clause-decided
returns-in-Awaited-clause-decided c =
    none_decided (seen_turn c.args.self.now) (sym c.in_ok-diff.ensures ∙ ap known_diff c.in-Awaited.is)

pub returns-in-Unwanted-clause-decided : goal.returns-in-Unwanted-clause-decided
returns-in-Unwanted-clause-decided c =
    IfOk-weaker c.decided_with.result _ _
    (λ made says. says ∙ decided_with_diff (seen_turn c.args.self.now) None (sym c.in_ok-diff.ensures ∙ ap known_diff c.in-Unwanted.is))
    c.decided_with.ensures.decided

pub returns-in-Known-clause-decided : goal.returns-in-Known-clause-decided
returns-in-Known-clause-decided c =
    IfOk-weaker c.decided_with-in-Known.result _ _
    (λ made says. says
    ∙ decided_with_diff (seen_turn c.args.self.now) (Some c.in-Known.diff) (sym c.in_ok-diff.ensures ∙ ap known_diff c.in-Known.is))
    c.decided_with-in-Known.ensures.decided
