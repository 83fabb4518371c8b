use Rattle.std.proofs.Common.{◌≡◌, ◌∙◌, Some, None, length, sym, ap}
use Rattle.pl_lemmas.specs.Words.{numbered}
use Rattle.pl_options.specs.Refused.{HasPaths}
use Rattle.pl_turns.specs.Goals.{goals_before}
use Rattle.pl_turns.proofs.Goals.{numbered_all, turn_found, turn_none}
use Rattle.pl_turns.proofs.next.next_turn.Goals as goal

pub invariant_of-result : goal.invariant_of-result
invariant_of-result c = record {
  is_goal = sym c.in-Some.ensures;
  has_paths = numbered_all HasPaths c.args.requests.now.goals c.count-number.result c.in-Some.goal.now c.have_paths.ensures (sym c.in-Some.ensures);
}

pub returns-in-None : goal.returns-in-None
returns-in-None c =
    let none : numbered c.args.requests.now.goals (length c.args.claims.now.decided) ≡ None =
    ap (numbered c.args.requests.now.goals) (sym c.count-number.ensures) ∙ sym c.in-None.ensures in
    sym (turn_none c.args.claims.now.run c.args.errands.now.tickets.answers c.args.claims.now.decided c.args.requests.now.goals none)

pub returns-in-Some : goal.returns-in-Some
returns-in-Some c =
    let found : numbered c.args.requests.now.goals (length c.args.claims.now.decided) ≡ Some c.in-Some.goal.now =
    ap (numbered c.args.requests.now.goals) (sym c.count-number.ensures) ∙ sym c.in-Some.ensures in
    (λ i. Some (record {
      run = c.args.claims.now.run;
      answers = c.args.errands.now.tickets.answers;
      earlier = goals_before c.args.requests.now.goals (c.count-number.ensures i);
      before = c.args.claims.now.decided;
      goal = c.in-Some.goal.now;
      claim = c.claim_for.ensures i;
    }))
    ∙ sym (turn_found c.args.claims.now.run c.args.errands.now.tickets.answers c.args.claims.now.decided c.args.requests.now.goals c.in-Some.goal.now found)
