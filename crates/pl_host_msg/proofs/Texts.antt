-- What a caller knows of the text of an answer.
use Rattle.std.proofs.Common.{◌≡◌, ℕ, ◌<◌, ◌≤◌, ◌^◌, List, ◌++◌, Option, Some, None, length, length-append, codes, false, refl, ap, ◌∙◌, arith, rules, decimal}
use Rattle.std.proofs.lemmas.Fmt.{length-decimal-le}
use Rattle.serde_json.specs.Data.{Data}
use Rattle.serde_json.specs.Written.{compact_text, has_float}
use Rattle.serde_json.proofs.OnLiterals.{serde_json_on_literals}
use Rattle.pl_json.proofs.NoFloat.{has_float-spelled_members}
use Rattle.pl_events.specs.declared.event.Answer.{Answer}
use Rattle.pl_events.specs.declared.event.Answer.TheVariants.{Registered, Noted, Result, Refused}
use Rattle.pl_events.specs.Halted.{halted}
use Rattle.pl_host_msg.specs.Answer.{answer_data, answer_text}
use Rattle.pl_world.specs.declared.frames.TheConstants.{MAX_BODY}

-- an answer holds no float
pub has_float-answer_data : (n : ℕ) (answer : Answer) → has_float (answer_data n answer) ≡ false
has_float-answer_data n (Registered urn None outputs) = rw (has_float-spelled_members outputs) refl
has_float-answer_data n (Registered urn (Some id) outputs) = rw (has_float-spelled_members outputs) refl
has_float-answer_data n Noted = refl
has_float-answer_data n (Result fields) = rw (has_float-spelled_members fields) refl
has_float-answer_data n (Refused error) = refl

-- what is written for the answer's value is the answer's text
pub answer_text_from : (n : ℕ) (answer : Answer) (value : Data) (text : List ℕ) → value ≡ answer_data n answer → (has_float value ≡ false → text ≡ compact_text value) → text ≡ answer_text n answer
unfolding answer_text
answer_text_from n answer value text is written = written (ap has_float is ∙ has_float-answer_data n answer) ∙ ap compact_text is

-- an answer has a byte at least
pub answer_text_some : (n : ℕ) (answer : Answer) → 1 ≤ length (answer_text n answer)
unfolding answer_text
answer_text_some n (Registered urn id outputs) = omega arith
answer_text_some n Noted = omega arith
answer_text_some n (Result fields) = omega arith
answer_text_some n (Refused error) = omega arith

halted_text : (n : ℕ) → answer_text n halted ≡ codes "{\"error\":\"halted\",\"n\":" ++ decimal n ++ codes "}"
unfolding answer_text serde_json_on_literals
halted_text n = search rules

-- the refusal of a request that came too late fits a frame
pub halted_fits : (n : ℕ) → n < 2 ^ 64 → length (answer_text n halted) ≤ MAX_BODY
halted_fits n small = let digits = length-decimal-le 20 n (omega arith) (omega arith) small in rw halted_text (simp length-append (omega arith))
