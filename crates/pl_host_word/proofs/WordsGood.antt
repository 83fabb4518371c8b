-- A word that is read has its form, and can be written so that it is read back.
use Rattle.std.proofs.Common.{◌≡◌, ◌≢◌, ℕ, true, not, List, [], codes, Option, Some, option_map, refl}
use Rattle.std.proofs.lemmas.Bool.{and_from}
use Rattle.serde_json.specs.Data.{Data}
use Rattle.serde_json.specs.Find.{get}
use Rattle.pl_value.specs.Keys.{are_rising, keys_of}
use Rattle.pl_lemmas.specs.Words.{has_none}
use Rattle.pl_events.specs.Requests.{is_formed_request, is_request_number}
use Rattle.pl_events.specs.declared.event.Request.{Request}
use Rattle.pl_json.specs.Texts.{json_of}
use Rattle.pl_members.specs.Field.{Keyed, keyed_or_none, nonempty_text, pairs, pairs_or_none, present, request_number, text, text_if_there, texts_or_none}
use Rattle.pl_members.specs.Readable.{AreReadable}
use Rattle.pl_members.proofs.HeldData.{Holds, json_of-holds}
use Rattle.pl_members.proofs.Steps.{Gives, gives, gives_map, gives_next}
use Rattle.pl_host_word.specs.Parent.{parent_text}
use Rattle.pl_host_word.specs.Laws.{IsReadableRequest, IsReadableWord, WordsAreReadAgain, WordsFit}
use Rattle.pl_host_word.specs.Word.{extras_of, flags_of, invoke_of, is_formed_word, links_of, names_of, outputs_of, read_of, register_of, word_called, word_in, word_read}
use Rattle.pl_host_word.specs.Words.{call_named}
use Rattle.pl_host_word.specs.declared.calls.HostCall.{HostCall}
use Rattle.pl_host_word.specs.declared.calls.HostCall.TheVariants as called
use Rattle.pl_host_word.specs.declared.resource.Links.{Links}
use Rattle.pl_host_word.specs.declared.resource.Names.{Names}
use Rattle.pl_host_word.specs.declared.word.HostWord.{HostWord}
use Rattle.pl_host_word.specs.declared.word.HostWord.TheVariants.{Request as Asks, Error}
use Rattle.pl_members.proofs.KindsGood.{get-holds, keyed-good, nonempty-good, number-good, pairs-good, pairs_or_none-good, present-holds}
use Rattle.pl_host_word.proofs.Parents.{parent-good}
use Rattle.pl_host_word.proofs.WordsBack.{words_are_read}

-- ---- what a registration and a reading have alike

abbrev HasParent : Names → Type 0
HasParent names = names.parent ≢ Some []

names-good : (message : Data) → Gives HasParent (names_of message)
unfolding names_of
names-good message =
    gives_next HasParent (text (get (codes "type") message)) _ (λ kind k.
    gives_next HasParent (text (get (codes "name") message)) _ (λ name n.
    gives_next HasParent (parent_text (present (codes "parent") message)) _ (λ parent p.
    gives_next HasParent (text_if_there (present (codes "provider") message)) _ (λ provider r.
    gives_next HasParent (text_if_there (present (codes "version") message)) _ (λ version v.
    gives (λ found. found ≢ Some []) (parent_text (present (codes "parent") message)) parent (parent-good (present (codes "parent") message)) p)))))

record AreLinks (links : Links) : Type 0 where
  inputs : AreReadable links.inputs
  rising : are_rising (keys_of links.property_dependencies) ≡ true

links-good : (message : Data) → Holds message → Gives AreLinks (links_of message)
unfolding links_of
links-good message hold =
    gives_next AreLinks (pairs_or_none (present (codes "inputs") message)) _ (λ inputs i.
    gives_next AreLinks (texts_or_none (present (codes "dependencies") message)) _ (λ dependencies d.
    gives_next AreLinks (keyed_or_none (present (codes "propertyDependencies") message)) _ (λ properties p.
    record {
      inputs = gives AreReadable (pairs_or_none (present (codes "inputs") message)) inputs (pairs_or_none-good _ (present-holds (codes "inputs") message hold)) i;
      rising = gives (λ (pairs : Keyed). are_rising (keys_of pairs) ≡ true) (keyed_or_none (present (codes "propertyDependencies") message)) properties
          (keyed-good _ (present-holds (codes "propertyDependencies") message hold)) p;
    })))

-- ---- requests

-- a request that has its form, and values that can be read
abbrev IsGood : Request → Type 0
IsGood request = (is_formed_request request ≡ true) × IsReadableRequest request

number_in : (message : Data) (n : ℕ) → request_number (get (codes "n") message) ≡ Some n → is_request_number n ≡ true
number_in message n is = gives (λ m. is_request_number m ≡ true) (request_number (get (codes "n") message)) n (number-good (get (codes "n") message)) is

register-good : (message : Data) → Holds message → Gives IsGood (register_of message)
unfolding register_of
register-good message hold =
    gives_next IsGood (request_number (get (codes "n") message)) _ (λ n m.
    gives_next IsGood (names_of message) _ (λ names a.
    gives_next IsGood (links_of message) _ (λ links l.
    gives_next IsGood (flags_of message) _ (λ flags f.
    gives_next IsGood (extras_of message) _ (λ extras e.
    let linked = gives AreLinks (links_of message) links (links-good message hold) l in (
      and_from _ _ (number_in message n m) (and_from _ _ linked.rising linked.inputs.shallow),
      record { inputs = linked.inputs; parent = gives HasParent (names_of message) names (names-good message) a; reading = tt },
    ))))))

read-good : (message : Data) → Holds message → Gives IsGood (read_of message)
unfolding read_of
read-good message hold =
    gives_next IsGood (request_number (get (codes "n") message)) _ (λ n m.
    gives_next IsGood (names_of message) _ (λ names a.
    gives_next IsGood (nonempty_text (get (codes "id") message)) _ (λ id d.
    gives_next IsGood (links_of message) _ (λ links l.
    let linked = gives AreLinks (links_of message) links (links-good message hold) l in
    let some = gives (λ found. not (has_none found) ≡ true) (nonempty_text (get (codes "id") message)) id (nonempty-good (get (codes "id") message)) d in (
      and_from _ _ (number_in message n m) (and_from _ _ (and_from _ _ some linked.rising) linked.inputs.shallow),
      record { inputs = linked.inputs; parent = gives HasParent (names_of message) names (names-good message) a; reading = refl },
    )))))

outputs-good : (message : Data) → Holds message → Gives IsGood (outputs_of message)
unfolding outputs_of
outputs-good message hold =
    gives_next IsGood (request_number (get (codes "n") message)) _ (λ n m.
    gives_next IsGood (text (get (codes "urn") message)) _ (λ urn u.
    gives_next IsGood (pairs (get (codes "outputs") message)) _ (λ outputs o.
    let are = gives AreReadable (pairs (get (codes "outputs") message)) outputs (pairs-good _ (get-holds (codes "outputs") message hold)) o in
    (and_from _ _ (number_in message n m) are.shallow, are))))

invoke-good : (message : Data) → Holds message → Gives IsGood (invoke_of message)
unfolding invoke_of
invoke-good message hold =
    gives_next IsGood (request_number (get (codes "n") message)) _ (λ n m.
    gives_next IsGood (text (get (codes "token") message)) _ (λ token t.
    gives_next IsGood (pairs_or_none (present (codes "args") message)) _ (λ args a.
    gives_next IsGood (text_if_there (present (codes "provider") message)) _ (λ provider r.
    gives_next IsGood (text_if_there (present (codes "version") message)) _ (λ version v.
    let are = gives AreReadable (pairs_or_none (present (codes "args") message)) args (pairs_or_none-good _ (present-holds (codes "args") message hold)) a in
    (and_from _ _ (number_in message n m) are.shallow, are))))))

-- ---- the word

abbrev IsGoodWord : HostWord → Type 0
IsGoodWord word = (is_formed_word word ≡ true) × IsReadableWord word

asked-good : (read : Option Request) → Gives IsGood read → Gives IsGoodWord (option_map Asks read)
asked-good read good = gives_map IsGoodWord read Asks (λ request is. gives IsGood read request good is)

called-good : (call : HostCall) (message : Data) → Holds message → Gives IsGoodWord (word_called call message)
called-good called.Register message hold = asked-good (register_of message) (register-good message hold)
called-good called.Read message hold = asked-good (read_of message) (read-good message hold)
called-good called.Outputs message hold = asked-good (outputs_of message) (outputs-good message hold)
called-good called.Invoke message hold = asked-good (invoke_of message) (invoke-good message hold)
called-good called.Done message hold = (refl, tt)
called-good called.Failed message hold = gives_map IsGoodWord (text (get (codes "text") message)) Error (λ text is. (refl, tt))

read_word-good : (message : Data) → Holds message → Gives IsGoodWord (word_read message)
unfolding word_read
read_word-good message hold =
    gives_next IsGoodWord (text (get (codes "call") message)) _ (λ word w.
    gives_next IsGoodWord (call_named word) _ (λ call c. called-good call message hold))

pub word_in-good : (bytes : List ℕ) (word : HostWord) → word_in bytes ≡ Some word → IsGoodWord word
unfolding word_in
word_in-good bytes word is =
    gives IsGoodWord (word_in bytes) word
    (gives_next IsGoodWord (json_of bytes) word_read (λ message read. read_word-good message (gives Holds (json_of bytes) message (json_of-holds bytes) read))) is

pub words_fit : WordsFit
words_fit bytes word is = (word_in-good bytes word is).0

pub words_are_read_again : WordsAreReadAgain
words_are_read_again bytes word is utf8 = let good = word_in-good bytes word is in words_are_read word good.0 good.1 utf8
