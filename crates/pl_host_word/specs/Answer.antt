-- The answer of the engine that a frame's body spells. How it is written stands with the engine's own messages.
use Rattle.std.specs.Prelude.{ℕ, List, codes, Option, Some, None, option_map, option_and_then}
use Rattle.serde_json.specs.Data.{Data}
use Rattle.serde_json.specs.Find.{as_object, as_str, get}
use Rattle.pl_events.specs.declared.event.Answer.{Answer}
use Rattle.pl_events.specs.declared.event.Answer.TheVariants.{Registered, Noted, Result, Refused}
use Rattle.pl_json.specs.Texts.{json_of}
use Rattle.pl_members.specs.Field.{◌>>=◌, pairs, pairs_of, request_number, text_if_there, urn}

-- the answer to a registration or a reading
unfoldable pub registered_of : Data → Option Answer
registered_of ok = do
  name ← urn (get (codes "urn") ok)
  id ← text_if_there (get (codes "id") ok)
  outputs ← pairs (get (codes "outputs") ok)
  Some (Registered name id outputs)

-- the answer to outputs: an object, whatever else it holds
abbrev pub noted_of : Data → Option Answer
noted_of ok = option_map (λ _. Noted) (as_object ok)

-- the answer by what stands under `urn` and `result`: the first counts before the second
abbrev pub success_by : Data → Option Data → Option Data → Option Answer
success_by ok (Some name) result = registered_of ok
success_by ok None (Some result) = option_map Result (pairs_of result)
success_by ok None None = noted_of ok

-- the answer that is no refusal
unfoldable pub success_of : Data → Option Answer
success_of ok = success_by ok (get (codes "urn") ok) (get (codes "result") ok)

-- the refusal, by its text
abbrev pub refused_of : Data → Option Answer
refused_of error = option_map Refused (as_str error)

-- the answer by what stands under `ok` and `error`, of which just one is there
abbrev pub answer_by : Option Data → Option Data → Option Answer
answer_by (Some ok) None = success_of ok
answer_by None (Some error) = refused_of error
answer_by _ _ = None

-- the answer that a message spells, with the number of its request
unfoldable pub answer_read : Data → Option (ℕ × Answer)
answer_read message = do
  n ← request_number (get (codes "n") message)
  answer ← answer_by (get (codes "ok") message) (get (codes "error") message)
  Some (n, answer)

-- the answer that the bytes spell, with the number of its request; `None` where they are no message
unfoldable pub answer_in : List ℕ → Option (ℕ × Answer)
answer_in bytes = option_and_then answer_read (json_of bytes)
