-- What sending a request and hearing an answer change.
use Rattle.std.specs.Prelude.{◌≡◌, ℕ, ◌==◌, ◌+◌, ◌-◌, List, [], ◌∷◌, ◌++◌, length, filter, Bool, true, false, not, nat_lt, if◌then◌else◌, Option, None, Some, option_map, slice_get}
use Rattle.std.specs.List.{list_any}
use Rattle.pl_events.specs.declared.event.Answer.{Answer}
use Rattle.pl_events.specs.declared.event.Answer.TheVariants.{Registered, Noted, Result, Refused}
use Rattle.pl_host_word.specs.Answer.{answer_in}
use Rattle.pl_program_file.specs.Registered.{Pairs}
use Rattle.pl_program_file.specs.declared.known.Known.{Known}
use Rattle.pl_program_file.specs.declared.program.Resource.{Resource}
use Rattle.pl_program.specs.declared.talk.Talk.{Talk}

-- one more request waits for its answer
abbrev pub asked : Talk → Talk
asked talk = record talk { asked = talk.asked + 1; unanswered = talk.unanswered ++ (talk.asked + 1) ∷ [] }

-- the numbers but for one
abbrev pub without : ℕ → List ℕ → List ℕ
without n numbers = filter (λ number. not (number == n)) numbers

abbrev pub is_unanswered : Talk → ℕ → Bool
is_unanswered talk n = list_any (λ number. number == n) talk.unanswered

-- the request is answered
abbrev pub answered : ℕ → Talk → Talk
answered n talk = record talk { unanswered = without n talk.unanswered }

abbrev pub row_of : Resource → List ℕ → Option (List ℕ) → Pairs → Known
row_of resource urn id outputs = record { name = resource.name; urn = urn; id = id; outputs = outputs }

abbrev pub with_row : List ℕ → Option (List ℕ) → Pairs → Talk → Resource → Talk
with_row urn id outputs talk resource = record talk { known = talk.known ++ row_of resource urn id outputs ∷ [] }

-- the first request is that of the stack, those behind it are those of the resources
abbrev pub with_resource : ℕ → List ℕ → Option (List ℕ) → Pairs → Talk → Option Talk
with_resource n urn id outputs talk =
    if n == 1 then Some (record talk { stack = Some urn })
    else option_map (with_row urn id outputs talk) (slice_get talk.program.resources (n - 2))

-- the talk once an answer is taken up, if it may stand there: that a resource is registered is no answer to outputs, that
-- outputs are noted is one to them alone, and a refusal may stand anywhere
abbrev pub taken_up : ℕ → Answer → Talk → Option Talk
taken_up n (Registered urn id outputs) talk = with_resource n urn id outputs talk
taken_up n Noted talk = if nat_lt (length talk.program.resources + 1) n then Some talk else None
taken_up n (Result fields) talk = None
taken_up n (Refused text) talk = Some (record talk { error = Some text })

-- an answer may stand in any order among the requests that wait for one
abbrev pub heard_answer : ℕ → Answer → Talk → Option Talk
heard_answer n answer talk = if is_unanswered talk n then taken_up n answer (answered n talk) else None

abbrev pub heard_told : Option (ℕ × Answer) → Talk → Option Talk
heard_told None talk = None
heard_told (Some told) talk = heard_answer told.0 told.1 talk

-- the talk once the body of a frame is heard, if that is an answer that may stand there
unfoldable pub heard : List ℕ → Talk → Option Talk
heard body talk = heard_told (answer_in body) talk

-- whether it was heard, and the talk then
abbrev pub IsHeard : Bool → Option Talk → Talk → Type 0
IsHeard true told now = told ≡ Some now
IsHeard false told now = told ≡ None
