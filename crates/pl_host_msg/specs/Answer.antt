-- The text of an answer to a host.
use Rattle.std.specs.Prelude.{ℕ, List, [], ◌∷◌, Option, Some, None, codes}
use Rattle.pl_json.specs.Spelled.{members_of, spelled_fields}
use Rattle.serde_json.specs.Data.{Data, number, unsigned, string, object, Members, no_members, member}
use Rattle.serde_json.specs.Written.{compact_text}
use Rattle.pl_events.specs.declared.event.Answer.{Answer}
use Rattle.pl_events.specs.declared.event.Answer.TheVariants.{Registered, Noted, Result, Refused}

-- the object with these members, whose names rise
abbrev pub object_of : List (List ℕ × Data) → Data
object_of members = object (members_of members)

-- the id's member, which is left out where there is none
abbrev pub id_if_some : Option (List ℕ) → Members → Members
id_if_some None later = later
id_if_some (Some id) later = member (codes "id") (string id) later

-- the object of an answer that is no refusal
abbrev pub ok_data : ℕ → Data → Data
ok_data n ok = object (member (codes "n") (number (unsigned n)) (member (codes "ok") ok no_members))

-- the JSON value of the answer to request n
abbrev pub answer_data : ℕ → Answer → Data
answer_data n (Registered urn id outputs) = ok_data n (object (id_if_some id (member (codes "outputs") (spelled_fields outputs) (member (codes "urn") (string urn) no_members))))
answer_data n Noted = ok_data n (object no_members)
answer_data n (Result fields) = ok_data n (object (member (codes "result") (spelled_fields fields) no_members))
answer_data n (Refused error) = object_of ((codes "error", string error) ∷ (codes "n", number (unsigned n)) ∷ [])

-- the bytes of the answer to request n
unfoldable pub answer_text : ℕ → Answer → List ℕ
answer_text n answer = compact_text (answer_data n answer)
