-- An answer that was read is read again.
use Rattle.std.proofs.Common.{◌≡◌, ℕ, true, List, codes, Option, Some, None}
use Rattle.serde_json.specs.Data.{Data}
use Rattle.serde_json.specs.Find.{as_object, as_str, get}
use Rattle.pl_urn.specs.Grammar.{IsUrn}
use Rattle.pl_events.specs.Requests.{is_request_number}
use Rattle.pl_events.specs.declared.event.Answer.{Answer}
use Rattle.pl_events.specs.declared.event.Answer.TheVariants.{Result, Refused}
use Rattle.pl_json.specs.Texts.{json_of}
use Rattle.pl_members.specs.Field.{pairs, pairs_of, request_number, text_if_there, urn}
use Rattle.pl_members.specs.Readable.{AreReadable}
use Rattle.pl_members.proofs.HeldData.{Holds, json_of-holds}
use Rattle.pl_members.proofs.Steps.{Gives, gives, gives_map, gives_next}
use Rattle.pl_host_word.specs.Answer.{answer_by, answer_in, answer_read, registered_of, success_by, success_of}
use Rattle.pl_host_word.specs.Laws.{AnswersAreReadAgain, IsReadableAnswer}
use Rattle.pl_host_word.proofs.AnswersBack.{answers_are_read}
use Rattle.pl_members.proofs.KindsGood.{get-holds, number-good, pairs-good, pairs_of-good, urn-good}

registered-good : (ok : Data) → Holds ok → Gives IsReadableAnswer (registered_of ok)
unfolding registered_of
registered-good ok hold =
    gives_next IsReadableAnswer (urn (get (codes "urn") ok)) _ (λ name u.
    gives_next IsReadableAnswer (text_if_there (get (codes "id") ok)) _ (λ id i.
    gives_next IsReadableAnswer (pairs (get (codes "outputs") ok)) _ (λ outputs o. (
      gives IsUrn (urn (get (codes "urn") ok)) name (urn-good (get (codes "urn") ok)) u,
      gives AreReadable (pairs (get (codes "outputs") ok)) outputs (pairs-good _ (get-holds (codes "outputs") ok hold)) o,
    ))))

success_by-good : (ok : Data) (name result : Option Data) → Holds ok → Gives Holds result → Gives IsReadableAnswer (success_by ok name result)
success_by-good ok (Some name) result hold there = registered-good ok hold
success_by-good ok None (Some result) hold there =
    gives_map IsReadableAnswer (pairs_of result) Result (λ fields is. gives AreReadable (pairs_of result) fields (pairs_of-good result there) is)
success_by-good ok None None hold there = gives_map IsReadableAnswer (as_object ok) _ (λ ms is. tt)

success-good : (ok : Data) → Holds ok → Gives IsReadableAnswer (success_of ok)
unfolding success_of
success-good ok hold = success_by-good ok (get (codes "urn") ok) (get (codes "result") ok) hold (get-holds (codes "result") ok hold)

answer_by-good : (ok error : Option Data) → Gives Holds ok → Gives IsReadableAnswer (answer_by ok error)
answer_by-good (Some ok) None hold = success-good ok hold
answer_by-good None (Some error) hold = gives_map IsReadableAnswer (as_str error) Refused (λ text is. tt)
answer_by-good None None hold = tt
answer_by-good (Some ok) (Some error) hold = tt

record IsGood (told : ℕ × Answer) : Type 0 where
  number : is_request_number told.0 ≡ true
  readable : IsReadableAnswer told.1

answer_read-good : (message : Data) → Holds message → Gives IsGood (answer_read message)
unfolding answer_read
answer_read-good message hold =
    gives_next IsGood (request_number (get (codes "n") message)) _ (λ n m.
    gives_next IsGood (answer_by (get (codes "ok") message) (get (codes "error") message)) _ (λ answer a.
    record {
      number = gives (λ k. is_request_number k ≡ true) (request_number (get (codes "n") message)) n (number-good (get (codes "n") message)) m;
      readable = gives IsReadableAnswer (answer_by (get (codes "ok") message) (get (codes "error") message)) answer
          (answer_by-good _ (get (codes "error") message) (get-holds (codes "ok") message hold)) a;
    }))

answer_in-good : (bytes : List ℕ) → Gives IsGood (answer_in bytes)
unfolding answer_in
answer_in-good bytes = gives_next IsGood (json_of bytes) answer_read (λ message is. answer_read-good message (gives Holds (json_of bytes) message (json_of-holds bytes) is))

pub answers_are_read_again : AnswersAreReadAgain
answers_are_read_again bytes n answer is utf8 =
    let good = gives IsGood (answer_in bytes) (n, answer) (answer_in-good bytes) is in
    answers_are_read n answer good.number good.readable utf8
