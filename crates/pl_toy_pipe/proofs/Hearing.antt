-- What becomes of bytes, from what their parts say.
use Rattle.std.proofs.Common.{◌≡◌, ◌∙◌, ℕ, ◌-◌, ◌≤◌, Bool, true, List, Option, ap, drop, length, refl, inl, inr, sym, take}
use Rattle.std.proofs.lemmas.List.{take-append-le}
use Rattle.std.specs.Prelude.{Result, Ok, Err}
use Rattle.pl_world.specs.Counts.{Rose}
use Rattle.pl_world.specs.Frames.{frame_of}
use Rattle.pl_world.proofs.Telling.{rest_from}
use Rattle.pl_toy.specs.Things.{Things}
use Rattle.pl_toy_pipe.specs.declared.ending.Ending.{Ending}
use Rattle.pl_toy_pipe.specs.declared.ending.Ending.TheVariants.{NoRequest, NoMemory}
use Rattle.pl_toy_pipe.specs.Piped.{HasGivenUp, IsBodyAnswered, IsStep, State, state}

-- a request was carried out, and no memory was found for the frame of its answer
pub given_up : (bytes body answer begun begun_now replies replies_now : List ℕ) (things things_now : Option Things) (faults faults_now : ℕ) (is_over : Bool)
    → bytes ≡ frame_of body → replies_now ≡ replies → IsBodyAnswered body answer things things_now (Rose faults faults_now)
    → HasGivenUp bytes (state begun replies is_over things faults) (state begun_now replies_now true things_now faults_now)
given_up bytes body answer begun begun_now replies replies_now things things_now faults faults_now is_over whole stay (ticket, asked, asks, (reply, replied, _)) = record {
  things = inr (body, whole, inr (ticket, asked, asks, inr (reply, replied)));
  over = refl;
  replies_stay = stay;
}

-- the whole frame, by its body as the program takes it
pub whole_frame : (bytes taken : List ℕ) → taken ≡ bytes → bytes ≡ frame_of (drop 4 bytes) → bytes ≡ frame_of (take (length taken - 4) (drop 4 taken))
whole_frame bytes taken same frame =
    let behind : take (length taken - 4) (drop 4 taken) ≡ drop 4 bytes = rest_from 4 taken ∙ ap (λ xs. drop 4 xs) same in
    frame ∙ ap frame_of (sym behind)

-- of the replies so far none changes
pub replies_stay : {T : Type 0} (result : Result T Ending) (bytes : List ℕ) (before now : State) (at : ℕ) → at ≤ length before.replies
    → IsStep result bytes before now → take at now.replies ≡ take at before.replies
replies_stay (Ok _) bytes before now at within (inl waits) = ap (λ xs. take at xs) waits.nothing_done.replies_stay
replies_stay (Ok _) bytes before now at within (inr told) =
    ap (λ xs. take at xs) told.replied.1 ∙ take-append-le at before.replies (frame_of told.answer) within
replies_stay (Err NoRequest) bytes before now at within ended = ap (λ xs. take at xs) ended.nothing_done.replies_stay
replies_stay (Err NoMemory) bytes before now at within up = ap (λ xs. take at xs) up.replies_stay
