-- What a word that is read fits, and that what is written is read back.
use Rattle.std.specs.Prelude.{◌≡◌, ◌≢◌, ⊤, ℕ, true, false, List, [], Some, None, IfSome}
use Rattle.std.specs.Str.{IsUtf8}
use Rattle.pl_urn.specs.Grammar.{IsUrn}
use Rattle.pl_state.specs.declared.goal.Registration.{Registration}
use Rattle.pl_events.specs.Requests.{is_request_number}
use Rattle.pl_events.specs.declared.event.Answer.{Answer}
use Rattle.pl_events.specs.declared.event.Answer.TheVariants.{Registered, Noted, Result, Refused}
use Rattle.pl_events.specs.declared.event.Request.{Request}
use Rattle.pl_events.specs.declared.event.Request.TheVariants.{Register, Outputs, Invoke}
use Rattle.pl_members.specs.Readable.{AreReadable}
use Rattle.pl_host_msg.specs.Answer.{answer_text}
use Rattle.pl_host_word.specs.Answer.{answer_in}
use Rattle.pl_host_word.specs.Spelled.{word_text}
use Rattle.pl_host_word.specs.Word.{is_formed_word, word_in}
use Rattle.pl_host_word.specs.declared.word.HostWord.{HostWord}
use Rattle.pl_host_word.specs.declared.word.HostWord.TheVariants.{Request as Asks, Success, Error}

-- a word that is read has its form: of a request its number, what it reads, the order of its property dependencies, and
-- the depth of its values
abbrev pub WordsFit : Type 0
WordsFit = (bytes : List ℕ) (word : HostWord) → word_in bytes ≡ Some word → is_formed_word word ≡ true

-- a registration with the options for which a reading has a field, and no other
abbrev pub as_reading : Registration → Registration
as_reading told = record told {
  custom = true;
  protect = false;
  aliases = [];
  ignore_changes = [];
  delete_before_replace = None;
  retain_on_delete = false;
  deleted_with = None;
  additional_secret_outputs = [];
  import_id = None;
}

-- a registration that can be told by a message: its inputs can be read, its parent is no empty text, and where it names an
-- id to read it has no option for which a reading has no field
pub record IsTellable (told : Registration) : Type 0 where
  pub inputs : AreReadable told.inputs
  pub parent : told.parent ≢ Some []
  pub reading : IfSome told.read_id (λ id. as_reading told ≡ told)

-- a request whose values can be read
abbrev pub IsReadableRequest : Request → Type 0
IsReadableRequest (Register n told) = IsTellable told
IsReadableRequest (Outputs n urn outputs) = AreReadable outputs
IsReadableRequest (Invoke n token args provider version) = AreReadable args

-- the same of a word
abbrev pub IsReadableWord : HostWord → Type 0
IsReadableWord (Asks request) = IsReadableRequest request
IsReadableWord Success = ⊤
IsReadableWord (Error text) = ⊤

-- an answer with a URN and such values
abbrev pub IsReadableAnswer : Answer → Type 0
IsReadableAnswer (Registered urn id outputs) = IsUrn urn × AreReadable outputs
IsReadableAnswer Noted = ⊤
IsReadableAnswer (Result fields) = AreReadable fields
IsReadableAnswer (Refused error) = ⊤

-- a word that has its form is read back from its bytes, where these are UTF-8, as those are that are written
abbrev pub WordsAreRead : Type 0
WordsAreRead =
    (word : HostWord) → is_formed_word word ≡ true → IsReadableWord word → IsUtf8 (word_text word)
    → word_in (word_text word) ≡ Some word

-- the same of the answer to a request
abbrev pub AnswersAreRead : Type 0
AnswersAreRead =
    (n : ℕ) (answer : Answer) → is_request_number n ≡ true → IsReadableAnswer answer → IsUtf8 (answer_text n answer)
    → answer_in (answer_text n answer) ≡ Some (n, answer)

-- a word that was read is read again from its bytes
abbrev pub WordsAreReadAgain : Type 0
WordsAreReadAgain =
    (bytes : List ℕ) (word : HostWord) → word_in bytes ≡ Some word → IsUtf8 (word_text word) → word_in (word_text word) ≡ Some word

-- the same of the answer to a request
abbrev pub AnswersAreReadAgain : Type 0
AnswersAreReadAgain =
    (bytes : List ℕ) (n : ℕ) (answer : Answer) → answer_in bytes ≡ Some (n, answer) → IsUtf8 (answer_text n answer)
    → answer_in (answer_text n answer) ≡ Some (n, answer)
