-- The bytes of a host that waits for no answer, made from a seed.
use Rattle.std.specs.Prelude.{ℕ, suc, zero, ◌+◌, ◌*◌, ◌/◌, ◌%◌, ◌^◌, List, [], ◌∷◌, ◌++◌, codes, decimal, if◌then◌else◌, nat_lt, pos, true, Some, None}
use Rattle.pl_events.specs.declared.event.Request.TheVariants.{Register}
use Rattle.pl_host_word.specs.Spelled.{word_text}
use Rattle.pl_host_word.specs.declared.word.HostWord.{HostWord}
use Rattle.pl_host_word.specs.declared.word.HostWord.TheVariants.{Request as Asks, Success}
use Rattle.pl_state.specs.Component.{plain_registration}
use Rattle.pl_state.specs.declared.goal.Registration.{Registration}
use Rattle.pl_value.specs.declared.value.Value.{Value}
use Rattle.pl_value.specs.declared.value.Value.TheVariants as value
use Rattle.pl_world.specs.Frames.{frame_of}

-- ---- the draws

-- the draw behind one
abbrev pub next_draw : ℕ → ℕ
next_draw draw = (draw * 6364136223846793005 + 1442695040888963407) % 2 ^ 64

-- the draw at a place; the seed is the first
unfoldable pub draw_at : ℕ → ℕ → ℕ
draw_at seed zero = seed
draw_at seed (suc place) = next_draw (draw_at seed place)

-- which of the earlier things the thing at a place depends on, by its draw
abbrev pub drawn : ℕ → ℕ → ℕ
drawn draw place = draw / 2 ^ 33 % place

-- ---- what is registered

abbrev pub stack_urn : List ℕ
stack_urn = codes "urn:pulumi:trial::trial::pulumi:pulumi:Stack::trial-trial"

abbrev pub thing_name : ℕ → List ℕ
thing_name place = codes "r" ++ decimal place

abbrev pub thing_urn : ℕ → List ℕ
thing_urn place = codes "urn:pulumi:trial::trial::toy:index:Thing::r" ++ decimal place

abbrev pub inputs_at : ℕ → List (List ℕ × Value)
inputs_at place = (codes "k", value.Whole (pos place)) ∷ []

-- what the thing at a place depends on, by its draw: the first on nothing
abbrev pub dependencies_at : ℕ → ℕ → List (List ℕ)
dependencies_at draw place = if nat_lt 0 place then thing_urn (drawn draw place) ∷ [] else []

abbrev pub thing_at : ℕ → ℕ → Registration
thing_at draw place = record (plain_registration (codes "toy:index:Thing") (thing_name place) (Some stack_urn)) {
  custom = true;
  inputs = inputs_at place;
  dependencies = dependencies_at draw place;
}

-- ---- what is said

abbrev pub stack_first : HostWord
stack_first = Asks (Register 1 (plain_registration (codes "pulumi:pulumi:Stack") (codes "trial-trial") None))

abbrev pub thing_word : ℕ → ℕ → HostWord
thing_word draw place = Asks (Register (place + 2) (thing_at draw place))

abbrev pub first_frame : List ℕ
first_frame = frame_of (word_text stack_first)

-- the frames of the stack and of the first things
unfoldable pub frames_until : ℕ → ℕ → List ℕ
frames_until seed zero = first_frame
frames_until seed (suc place) = frames_until seed place ++ frame_of (word_text (thing_word (draw_at seed place) place))

-- the whole: the stack, the things and the word of success
abbrev pub generated : ℕ → ℕ → List ℕ
generated seed count = frames_until seed count ++ frame_of (word_text Success)
