-- The answer to a request is read back from what is written for it.
use Rattle.std.proofs.Common.{◌≡◌, ℕ, true, List, codes, Option, Some, None, option_and_then, refl, ap, ◌∙◌, arith}
use Rattle.serde_json.specs.Data.{Data, string, object, no_members, member}
use Rattle.serde_json.specs.Read.{max_depth}
use Rattle.pl_urn.specs.Grammar.{IsUrn}
use Rattle.pl_json.specs.Spelled.{spelled_fields}
use Rattle.pl_events.specs.Requests.{is_request_number}
use Rattle.pl_events.specs.declared.event.Answer.{Answer}
use Rattle.pl_events.specs.declared.event.Answer.TheVariants.{Registered, Noted, Result, Refused}
use Rattle.pl_members.specs.Field.{Pairs}
use Rattle.pl_members.specs.Readable.{AreReadable}
use Rattle.pl_json.proofs.JsonTexts.{json_of_text}
use Rattle.pl_members.proofs.Outlines.{IsRead, object-read, string-read, text-read, ticket-read}
use Rattle.pl_members.proofs.KindsBack.{number_small, numbered, pairs-back, pairs-read-at, urn-back}
use Rattle.pl_host_msg.specs.Answer.{answer_data, answer_text, id_if_some, ok_data}
use Rattle.pl_host_word.specs.Answer.{answer_in, answer_read, registered_of, success_of}
use Rattle.pl_host_word.specs.Laws.{AnswersAreRead, IsReadableAnswer}

-- ---- what was told is what was written

registered-back : (name : List ℕ) (id : Option (List ℕ)) (outputs : Pairs) → IsUrn name → AreReadable outputs
    → success_of (object (id_if_some id (member (codes "outputs") (spelled_fields outputs) (member (codes "urn") (string name) no_members)))) ≡ Some (Registered name id outputs)
unfolding success_of registered_of
registered-back name None outputs is are = rw (urn-back name is, pairs-back outputs are) refl
registered-back name (Some id) outputs is are = rw (urn-back name is, pairs-back outputs are) refl

result-back : (fields : Pairs) → AreReadable fields → success_of (object (member (codes "result") (spelled_fields fields) no_members)) ≡ Some (Result fields)
unfolding success_of
result-back fields are = rw (pairs-back fields are) refl

noted-back : success_of (object no_members) ≡ Some Noted
unfolding success_of
noted-back = refl

ok-back : (n : ℕ) (ok : Data) (answer : Answer) → is_request_number n ≡ true → success_of ok ≡ Some answer → answer_read (ok_data n ok) ≡ Some (n, answer)
unfolding answer_read
ok-back n ok answer fits is = rw (numbered n fits, is) refl

answer-back : (n : ℕ) (answer : Answer) → is_request_number n ≡ true → IsReadableAnswer answer → answer_read (answer_data n answer) ≡ Some (n, answer)
unfolding answer_read
answer-back n (Registered name id outputs) fits is = ok-back n _ _ fits (registered-back name id outputs is.0 is.1)
answer-back n Noted fits is = ok-back n _ _ fits noted-back
answer-back n (Result fields) fits is = ok-back n _ _ fits (result-back fields is)
answer-back n (Refused error) fits is = rw (numbered n fits) refl

-- ---- the text

ok-read : (n : ℕ) (ok : Data) → is_request_number n ≡ true → IsRead 126 ok → IsRead max_depth (ok_data n ok)
ok-read n ok fits is = object-read 126 _ refl (ticket-read 126 n (number_small n fits), (is, tt))

pairs-read : (fields : Pairs) → AreReadable fields → IsRead 125 (spelled_fields fields)
pairs-read fields are = pairs-read-at 125 fields (omega arith) are

answer_data-read : (n : ℕ) (answer : Answer) → is_request_number n ≡ true → IsReadableAnswer answer → IsRead max_depth (answer_data n answer)
answer_data-read n (Registered name None outputs) fits is =
    ok-read n _ fits (object-read 125 _ refl (pairs-read outputs is.1, (string-read 125 name, tt)))
answer_data-read n (Registered name (Some id) outputs) fits is =
    ok-read n _ fits (object-read 125 _ refl (string-read 125 id, (pairs-read outputs is.1, (string-read 125 name, tt))))
answer_data-read n Noted fits is = ok-read n _ fits (object-read 125 _ refl tt)
answer_data-read n (Result fields) fits is = ok-read n _ fits (object-read 125 _ refl (pairs-read fields is, tt))
answer_data-read n (Refused error) fits is = object-read 126 _ refl (string-read 126 error, (ticket-read 126 n (number_small n fits), tt))

pub answers_are_read : AnswersAreRead
unfolding answer_in answer_text
answers_are_read n answer fits is utf8 =
    ap (option_and_then answer_read) (json_of_text _ _ utf8 (text-read (answer_data n answer) (answer_data-read n answer fits is)))
    ∙ answer-back n answer fits is
