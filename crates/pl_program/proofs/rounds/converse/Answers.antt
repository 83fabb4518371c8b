use Rattle.std.proofs.Common.{◌∙◌, ◌⊎◌, None, Some, refl, arith}
use Rattle.pl_world.specs.Counts.{Rose}
use Rattle.pl_program.proofs.Going.{Rose-earlier, either_rose, over_end, over_lighter, over_none, over_step}
use Rattle.pl_program.proofs.rounds.converse.Goals as goal

pub rounds-init : goal.rounds-init
rounds-init g c = record {
  told = over_none c.args.talk.now _ _;
  given_stays = refl;
  taken_stays = refl;
  incoming_faults = omega arith;
  incoming_ends = omega arith;
  outgoing_faults = omega arith;
  outgoing_ends = omega arith;
}

pub returns-in-Some-clause-told : goal.returns-in-Some-clause-told
returns-in-Some-clause-told g c =
    over_end c.args.talk.now c.rounds.talk c.round.new.talk (Some c.in-Some.status) c.in-Some.status _ _ _ _ _ _ _ _ _ _ refl
    (either_rose _ _ _ _ _ _ c.rounds.invariant.incoming_faults c.rounds.invariant.outgoing_faults)
    (Rose-earlier _ _ _ c.rounds.invariant.incoming_ends)
    c.rounds.invariant.told c.in-Some.ensures.goes

pub rounds-smaller : goal.rounds-smaller
rounds-smaller g c =
    over_lighter c.rounds.talk c.round.new.talk None
    (Rose (g.Q.Pipe.faults c.rounds.incoming) (g.Q.Pipe.faults c.round.new.incoming) ⊎ Rose (g.Q.Pipe.faults c.rounds.outgoing) (g.Q.Pipe.faults c.round.new.outgoing))
    (Rose (g.Q.Pipe.ends c.rounds.incoming) (g.Q.Pipe.ends c.round.new.incoming))
    _ _ _ _ refl c.in-None.ensures.goes

pub rounds-preserved : goal.rounds-preserved
rounds-preserved g c = record {
  told = over_step c.args.talk.now c.rounds.talk c.round.new.talk None
      (Rose (g.Q.Pipe.faults c.rounds.incoming) (g.Q.Pipe.faults c.round.new.incoming) ⊎ Rose (g.Q.Pipe.faults c.rounds.outgoing) (g.Q.Pipe.faults c.round.new.outgoing))
      (Rose (g.Q.Pipe.ends c.rounds.incoming) (g.Q.Pipe.ends c.round.new.incoming))
      _ _ _ _ _ _ refl c.rounds.invariant.told c.in-None.ensures.goes;
  given_stays = c.in-None.ensures.given_stays ∙ c.rounds.invariant.given_stays;
  taken_stays = c.in-None.ensures.taken_stays ∙ c.rounds.invariant.taken_stays;
  incoming_faults = let step = c.in-None.ensures.incoming_faults in let past = c.rounds.invariant.incoming_faults in omega arith;
  incoming_ends = let step = c.in-None.ensures.incoming_ends in let past = c.rounds.invariant.incoming_ends in omega arith;
  outgoing_faults = let step = c.in-None.ensures.outgoing_faults in let past = c.rounds.invariant.outgoing_faults in omega arith;
  outgoing_ends = let step = c.in-None.ensures.outgoing_ends in let past = c.rounds.invariant.outgoing_ends in omega arith;
}
