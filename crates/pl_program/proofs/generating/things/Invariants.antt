use Rattle.std.proofs.Common.{◌≡◌}
use Rattle.pl_program.specs.Generated.{draw_at, frames_until}
use Rattle.pl_program.proofs.generating.things.Given as goal

-- the things before this place stand there, and its draw is the next
abbrev pub invariant-loop-place : goal.invariant-loop-place
invariant-loop-place l = record {
  frames : l.frames ≡ frames_until l.seed l.place;
  draw : l.draw ≡ draw_at l.seed l.place;
}
