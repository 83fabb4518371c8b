use Rattle.std.proofs.Common.{◌∙◌, List, ℕ, [], Some, sym, subst}
use Rattle.pl_world.specs.Frames.{frame_of}
use Rattle.pl_program.specs.Told.{Ends, done, failed}
use Rattle.pl_program.proofs.Going.{over_giving, over_taking}
use Rattle.pl_program.proofs.rounds.take_turn.Goals as goal

pub give_last-requires-clause-ends : goal.give_last-requires-clause-ends
give_last-requires-clause-ends g c κs within =
    subst (λ (body : List ℕ). Ends c.args.talk.now ⊥ ⊥ (frame_of body) [] 0) (sym c.as_slice-in-Done.ensures) (done c.in-Done.body (c.requires.turn ∙ c.in-Done.is))

pub give_last-requires-in-Failed-clause-ends : goal.give_last-requires-in-Failed-clause-ends
give_last-requires-in-Failed-clause-ends g c κs within =
    subst (λ (body : List ℕ). Ends c.args.talk.now ⊥ ⊥ (frame_of body) [] 1) (sym c.as_slice-in-Failed.ensures) (failed c.in-Failed.body (c.requires.turn ∙ c.in-Failed.is))

pub returns-in-Await-clause-goes : goal.returns-in-Await-clause-goes
returns-in-Await-clause-goes g c =
    over_taking c.args.talk.now c.take_answer.new.talk c.take_answer.result _ _ _ _ _ _ c.take_answer.ensures.goes

pub returns-in-Ask-clause-goes : goal.returns-in-Ask-clause-goes
returns-in-Ask-clause-goes g c =
    over_giving c.args.talk.now c.give_request.new.talk c.give_request.result _ _ _ _ _ _ c.give_request.ensures.goes

pub returns-in-Done-clause-goes : goal.returns-in-Done-clause-goes
returns-in-Done-clause-goes g c =
    over_giving c.args.talk.now c.args.talk.now (Some c.give_last.result) _ _ _ _ _ _ c.give_last.ensures.ends

pub returns-in-Failed-clause-goes : goal.returns-in-Failed-clause-goes
returns-in-Failed-clause-goes g c =
    over_giving c.args.talk.now c.args.talk.now (Some c.give_last-in-Failed.result) _ _ _ _ _ _ c.give_last-in-Failed.ensures.ends
