use Rattle.std.proofs.Common.{◌≡◌, ◌∙◌, ℕ, ◌+◌, List, ◌++◌, sym, ap, add-one}
use Rattle.pl_host_word.specs.Spelled.{word_text}
use Rattle.pl_world.specs.Frames.{frame_of}
use Rattle.pl_program.specs.Generated.{draw_at, frames_until, next_draw, thing_word}
use Rattle.pl_program.proofs.generating.things.Goals as goal

next_frames : (seed place : ℕ) → frames_until seed (place + 1) ≡ frames_until seed place ++ frame_of (word_text (thing_word (draw_at seed place) place))
unfolding frames_until
next_frames seed place = ap (λ (n : ℕ). frames_until seed n) (add-one place)

next_draws : (seed place : ℕ) → draw_at seed (place + 1) ≡ next_draw (draw_at seed place)
unfolding draw_at
next_draws seed place = ap (λ (n : ℕ). draw_at seed n) (add-one place)

pub loop-place-preserved : goal.loop-place-preserved
loop-place-preserved c = record {
  frames =
      c.in_ok-add_thing.ensures
      ∙ ap (λ (frames : List ℕ). frames ++ frame_of (word_text (thing_word c.loop-place.draw c.loop-place.place))) c.loop-place.invariant.frames
      ∙ ap (λ (draw : ℕ). frames_until c.args.seed c.loop-place.place ++ frame_of (word_text (thing_word draw c.loop-place.place))) c.loop-place.invariant.draw
      ∙ sym (next_frames c.args.seed c.loop-place.place);
  draw =
      c.next_draw-draw.ensures
      ∙ ap next_draw c.loop-place.invariant.draw
      ∙ sym (next_draws c.args.seed c.loop-place.place);
}
