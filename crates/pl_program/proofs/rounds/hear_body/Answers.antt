use Rattle.std.proofs.Common.{ℕ, [], Option, inr, refl, sym, subst}
use Rattle.pl_world.specs.Frames.{frame_of}
use Rattle.pl_program.specs.Told.{Goes, no_memory_to_take}
use Rattle.pl_program.proofs.Going.{heard_body}
use Rattle.pl_program.proofs.rounds.hear_body.Goals as goal

pub returns-in-Ok : goal.returns-in-Ok
returns-in-Ok c =
    subst (λ (status : Option ℕ). Goes c.args.talk.now c.hear.new.self status ⊥ ⊥ [] (frame_of c.args.body.now)) (sym c.heard_status.ensures)
    (heard_body c.in-Ok.stands c.args.talk.now c.hear.new.self c.args.body.now c.requires.turn c.requires.body c.in-Ok.ensures)

pub returns-in-Err : goal.returns-in-Err
returns-in-Err c = no_memory_to_take (frame_of c.args.body.now) c.requires.turn (inr (c.args.body.now, c.requires.body, refl))
