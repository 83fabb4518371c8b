-- What a host says next, by what it has sent and heard.
use Rattle.std.specs.Prelude.{⊤, ℕ, ◌==◌, ◌+◌, ◌-◌, List, [], ◌++◌, length, codes, Bool, ◌&&◌, nat_le, nat_lt, if◌then◌else◌, Option, None, Some, is_some, slice_get, Result, Ok, Err}
use Rattle.std.specs.List.{list_all}
use Rattle.pl_state.specs.Component.{plain_registration}
use Rattle.pl_world.specs.Frames.{IsBody}
use Rattle.pl_world.specs.declared.frames.TheConstants.{MAX_BODY}
use Rattle.pl_events.specs.declared.event.Request.TheVariants.{Register, Outputs}
use Rattle.pl_host_word.specs.Spelled.{word_text}
use Rattle.pl_host_word.specs.declared.word.HostWord.{HostWord}
use Rattle.pl_host_word.specs.declared.word.HostWord.TheVariants.{Request as Asks, Success, Error}
use Rattle.pl_program_file.specs.Filled.{filled_fields, known_at}
use Rattle.pl_program_file.specs.Names.{Name, names_of}
use Rattle.pl_program_file.specs.Registered.{Pairs, registration}
use Rattle.pl_program_file.specs.declared.fault.Unfilled.{Unfilled}
use Rattle.pl_program_file.specs.declared.fault.Unfilled.TheVariants.{Missing, OutOfMemory}
use Rattle.pl_program_file.specs.declared.known.Known.{Known}
use Rattle.pl_program_file.specs.declared.program.Resource.{Resource}
use Rattle.pl_program.specs.declared.talk.Talk.{Talk}
use Rattle.pl_program.specs.declared.talk.TheConstants.{MOST_UNANSWERED}
use Rattle.pl_program.specs.declared.talk.Turn.{Turn}
use Rattle.pl_program.specs.declared.talk.Turn.TheVariants.{Await, Ask, Done, Failed}

-- ---- words of error

-- the text that tells which output is missing
abbrev pub missing_text : List ℕ → List ℕ → List ℕ
missing_text name key = codes "no output " ++ name ++ codes "." ++ key

abbrev pub missing_word : Unfilled → HostWord
missing_word (Missing name key) = Error (missing_text name key)
missing_word OutOfMemory = Error []

-- the word in the place of one that would be too long
abbrev pub too_long_word : HostWord
too_long_word = Error (codes "too long")

-- ---- requests

-- the registration of the stack's own resource
abbrev pub stack_word : Talk → HostWord
stack_word talk = Asks (Register 1 (plain_registration (codes "pulumi:pulumi:Stack") talk.title None))

abbrev pub word_or_missing : {X : Type 0} → (X → HostWord) → Result X Unfilled → HostWord
word_or_missing make (Ok made) = make made
word_or_missing make (Err why) = missing_word why

-- the registration of a resource, filled with what is known, below the stack of this URN
abbrev pub register_word : Talk → Resource → List ℕ → HostWord
register_word talk resource stack =
    word_or_missing (λ told. Asks (Register (talk.asked + 1) told)) (registration talk.known stack talk.preview resource)

-- the stack's outputs
abbrev pub told_word : Talk → Pairs → List ℕ → HostWord
told_word talk outputs stack =
    word_or_missing (λ filled. Asks (Outputs (talk.asked + 1) stack filled)) (filled_fields talk.known talk.preview outputs)

-- ---- what they wait for

-- whether the resources of these names are answered
abbrev pub have_rows : List Known → List Name → Bool
have_rows known names = list_all (λ name. is_some (known_at name known)) names

-- whether each resource that this one uses is answered
abbrev pub are_known : List Known → Resource → Bool
are_known known resource = have_rows known (names_of resource)

-- whether one more request may wait for its answer
abbrev pub has_room : Talk → Bool
has_room talk = nat_lt (length talk.unanswered) MOST_UNANSWERED

-- the registration of a resource, once the stack and all that it uses are answered, and there is room
abbrev pub resource_word : Talk → Resource → Option (List ℕ) → Option HostWord
resource_word talk resource None = None
resource_word talk resource (Some stack) =
    if has_room talk && are_known talk.known resource then Some (register_word talk resource stack) else None

abbrev pub outputs_word : Talk → Pairs → Option (List ℕ) → Option HostWord
outputs_word talk outputs None = None
outputs_word talk outputs (Some stack) = Some (told_word talk outputs stack)

-- ---- the word that is due

-- the outputs of the stack, if the program has some, or the word of success
abbrev pub word_at_outputs : Talk → Option Pairs → Option HostWord
word_at_outputs talk None = Some Success
word_at_outputs talk (Some outputs) = outputs_word talk outputs talk.stack

-- once no answer is awaited, the outputs, and behind them the word of success
abbrev pub end_word : Talk → Option HostWord
end_word talk =
    if length talk.unanswered == 0
    then (if talk.asked == length talk.program.resources + 1 then word_at_outputs talk talk.program.outputs else Some Success)
    else None

abbrev pub word_at : Talk → Option Resource → Option HostWord
word_at talk (Some resource) = resource_word talk resource talk.stack
word_at talk None = end_word talk

-- first the stack, then the resources in order, then the end
abbrev pub next_word : Talk → Option HostWord
next_word talk = if talk.asked == 0 then Some (stack_word talk) else word_at talk (slice_get talk.program.resources (talk.asked - 1))

abbrev pub word_unless : Talk → Option (List ℕ) → Option HostWord
word_unless talk (Some text) = Some (Error text)
word_unless talk None = next_word talk

-- the word that is due, unless an answer is awaited before it; a host that is to fail does so at once
unfoldable pub word_due : Talk → Option HostWord
word_due talk = word_unless talk talk.error

-- ---- the turn

-- the turn in which a word is sent as this body
abbrev pub turn_by : HostWord → List ℕ → Turn
turn_by (Asks request) body = Ask body
turn_by Success body = Done body
turn_by (Error text) body = Failed body

abbrev pub said : HostWord → Turn
said word = turn_by word (word_text word)

-- the turn in which a word is sent, or the word of error where it would be too long
abbrev pub turn_with : HostWord → Turn
turn_with word = if nat_le (length (word_text word)) MAX_BODY then said word else said too_long_word

abbrev pub turn_for : Option HostWord → Turn
turn_for None = Await
turn_for (Some word) = turn_with word

-- what the host does next
unfoldable pub turn_of : Talk → Turn
turn_of talk = turn_for (word_due talk)

-- what is sent in a turn is the body of a frame
abbrev pub HasBody : Turn → Type 0
HasBody Await = ⊤
HasBody (Ask body) = IsBody body
HasBody (Done body) = IsBody body
HasBody (Failed body) = IsBody body
