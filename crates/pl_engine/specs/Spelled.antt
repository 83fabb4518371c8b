-- How this engine's messages and states are spelled.
use Rattle.std.specs.Prelude.{Bool, true, false, Option, Some, None, [], option_and_then}
use Rattle.pl_model.specs.Run.{Spelling}
use Rattle.pl_events.specs.declared.event.Request.{Request}
use Rattle.pl_host_msg.specs.declared.word.HostWord.{HostWord}
use Rattle.pl_host_msg.specs.declared.word.HostWord.TheVariants.{Request as Asks, Success}
use Rattle.pl_host_msg.specs.Word.{word_of}
use Rattle.pl_host_msg.specs.Answer.{answer_text}
use Rattle.pl_checkpoint_text.specs.Spelled.{checkpoint_text}

abbrev pub request_of_word : HostWord → Option Request
request_of_word (Asks request) = Some request
request_of_word Success = None

abbrev pub is_success_word : Option HostWord → Bool
is_success_word None = false
is_success_word (Some (Asks _)) = false
is_success_word (Some Success) = true

-- the spelling of the host's messages and of the checkpoint; no message spells an error yet, and no provider is
-- asked or replies
unfoldable pub host_spelling : Spelling
host_spelling = record {
  request_in = λ body. option_and_then request_of_word (word_of body);
  is_success = λ body. is_success_word (word_of body);
  error_in = λ body. None;
  answer_text = answer_text;
  ask_text = λ ticket asked. [];
  reply_in = λ ticket call body. None;
  state_text = checkpoint_text;
}
