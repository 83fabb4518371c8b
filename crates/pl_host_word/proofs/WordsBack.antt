-- A word is read back from what is written for it.
use Rattle.std.proofs.Common.{◌≡◌, ◌≢◌, ◌++◌, ◌&&◌, ℕ, true, false, not, List, [], ◌∷◌, codes, Option, Some, None, IfSome, option_map, option_and_then, refl, sym, ap, subst, ◌∙◌, arith}
use Rattle.std.proofs.lemmas.Bool.{and_parts}
use Rattle.serde_json.specs.Data.{Data, boolean, string}
use Rattle.serde_json.specs.Find.{get}
use Rattle.serde_json.specs.Read.{max_depth}
use Rattle.pl_value.specs.Keys.{are_rising, keys_of}
use Rattle.pl_lemmas.specs.Words.{has_none}
use Rattle.pl_state.specs.Formed.{are_shallow}
use Rattle.pl_state.specs.declared.goal.Registration.{Registration}
use Rattle.pl_events.specs.Requests.{is_formed_registration, is_request_number, reads_custom}
use Rattle.pl_events.specs.declared.event.Request.TheVariants as request
use Rattle.pl_members.specs.Field.{Pairs, flag_if_there, flag_or, keyed_or_none, nonempty_text, pairs_or_none, present, request_number, text, text_if_there, texts_or_none}
use Rattle.pl_members.specs.Readable.{AreReadable}
use Rattle.pl_json.proofs.JsonTexts.{json_of_text}
use Rattle.pl_members.proofs.Outlines as outlines
use Rattle.pl_members.proofs.Outlines.{IsRead, boolean-read, string-read}
use Rattle.pl_members.proofs.KindsBack.{bool-back, flag-back, flag-read, flag_if_there-back, flag_if_there-read, keyed-back, keyed-read, nonempty-back, number-back, number-read, numbered, pairs-back, pairs-read, pairs-read-at, pairs_or_none-back, text-back, text-read, texts-back, texts-read, then_some}
use Rattle.pl_host_word.specs.Parent.{parent_text}
use Rattle.pl_host_word.specs.Laws.{IsReadableWord, IsTellable, WordsAreRead, as_reading}
use Rattle.pl_json.specs.Objects.{Field, flag_data, object_with, text_data}
use Rattle.pl_members.specs.Spelled.{keyed_data, list_data, one_text, pairs_data}
use Rattle.pl_host_word.specs.Spelled.{call_data, early_fields, early_read_fields, invoke_data, invoke_fields, late_fields, late_read_fields, outputs_data, outputs_fields, read_data, read_fields, register_data, register_fields, told_data, word_data, word_text}
use Rattle.pl_host_word.specs.Word.{extras_of, flags_of, invoke_of, is_formed_word, links_of, names_of, outputs_of, read_of, register_of, word_in, word_read}
use Rattle.pl_host_word.specs.declared.calls.HostCall.TheVariants as called
use Rattle.pl_host_word.specs.declared.options.Extras.{Extras}
use Rattle.pl_host_word.specs.declared.options.Flags.{Flags}
use Rattle.pl_host_word.specs.declared.resource.Links.{Links}
use Rattle.pl_host_word.specs.declared.resource.Names.{Names}
use Rattle.pl_host_word.specs.declared.word.HostWord.{HostWord}
use Rattle.pl_host_word.specs.declared.word.HostWord.TheVariants.{Request as Asks, Success, Error}
use Rattle.pl_host_word.proofs.Parents.{parent-back}
use Rattle.pl_json.proofs.Objects.{over_none}
use Rattle.pl_members.proofs.Shapes.{FieldsAreRead, get-object_with, object_with-read}

-- ---- the parts of a registration

abbrev names_in : Registration → Names
names_in told = record { kind = told.kind; name = told.name; parent = told.parent; provider = told.provider; version = told.version }

abbrev links_in : Registration → Links
links_in told = record { inputs = told.inputs; dependencies = told.dependencies; property_dependencies = told.property_dependencies }

abbrev flags_in : Registration → Flags
flags_in told = record {
  custom = told.custom;
  protect = told.protect;
  retain_on_delete = told.retain_on_delete;
  delete_before_replace = told.delete_before_replace;
}

abbrev extras_in : Registration → Extras
extras_in told = record {
  aliases = told.aliases;
  ignore_changes = told.ignore_changes;
  additional_secret_outputs = told.additional_secret_outputs;
  deleted_with = told.deleted_with;
  import_id = told.import_id;
}

names-back : (message : Data) (told : Registration) → told.parent ≢ Some [] → get (codes "type") message ≡ Some (string told.kind) → get (codes "name") message ≡ Some (string told.name)
    → get (codes "parent") message ≡ text_data told.parent → get (codes "provider") message ≡ text_data told.provider → get (codes "version") message ≡ text_data told.version
    → names_of message ≡ Some (names_in told)
unfolding names_of
names-back message told some kind name parent provider version =
    then_some (text (get (codes "type") message)) _ told.kind (ap text kind)
    ∙ then_some (text (get (codes "name") message)) _ told.name (ap text name)
    ∙ then_some (parent_text (present (codes "parent") message)) _ told.parent (parent-back (codes "parent") message told.parent parent some)
    ∙ then_some (text_if_there (present (codes "provider") message)) _ told.provider (text-back (codes "provider") message told.provider provider)
    ∙ then_some (text_if_there (present (codes "version") message)) _ told.version (text-back (codes "version") message told.version version)

links-back : (message : Data) (told : Registration) → AreReadable told.inputs → are_rising (keys_of told.property_dependencies) ≡ true → get (codes "inputs") message ≡ pairs_data told.inputs
    → get (codes "dependencies") message ≡ list_data told.dependencies → get (codes "propertyDependencies") message ≡ keyed_data told.property_dependencies
    → links_of message ≡ Some (links_in told)
unfolding links_of
links-back message told are rising inputs dependencies properties =
    then_some (pairs_or_none (present (codes "inputs") message)) _ told.inputs (pairs_or_none-back (codes "inputs") message told.inputs inputs are)
    ∙ then_some (texts_or_none (present (codes "dependencies") message)) _ told.dependencies (texts-back (codes "dependencies") message told.dependencies dependencies)
    ∙ then_some (keyed_or_none (present (codes "propertyDependencies") message)) _ told.property_dependencies
    (keyed-back (codes "propertyDependencies") message told.property_dependencies properties rising)

flags-back : (message : Data) (told : Registration) → get (codes "custom") message ≡ Some (boolean told.custom) → get (codes "protect") message ≡ flag_data told.protect
    → get (codes "retainOnDelete") message ≡ flag_data told.retain_on_delete → get (codes "deleteBeforeReplace") message ≡ option_map boolean told.delete_before_replace
    → flags_of message ≡ Some (flags_in told)
unfolding flags_of
flags-back message told custom protect retain first =
    then_some (flag_or false (present (codes "custom") message)) _ told.custom (bool-back (codes "custom") message told.custom custom)
    ∙ then_some (flag_or false (present (codes "protect") message)) _ told.protect (flag-back (codes "protect") message told.protect protect)
    ∙ then_some (flag_or false (present (codes "retainOnDelete") message)) _ told.retain_on_delete (flag-back (codes "retainOnDelete") message told.retain_on_delete retain)
    ∙ then_some (flag_if_there (present (codes "deleteBeforeReplace") message)) _ told.delete_before_replace
    (flag_if_there-back (codes "deleteBeforeReplace") message told.delete_before_replace first)

extras-back : (message : Data) (told : Registration) → get (codes "aliases") message ≡ list_data told.aliases → get (codes "ignoreChanges") message ≡ list_data told.ignore_changes
    → get (codes "additionalSecretOutputs") message ≡ list_data told.additional_secret_outputs → get (codes "deletedWith") message ≡ text_data told.deleted_with
    → get (codes "importId") message ≡ text_data told.import_id → extras_of message ≡ Some (extras_in told)
unfolding extras_of
extras-back message told aliases ignored secrets deleted import =
    then_some (texts_or_none (present (codes "aliases") message)) _ told.aliases (texts-back (codes "aliases") message told.aliases aliases)
    ∙ then_some (texts_or_none (present (codes "ignoreChanges") message)) _ told.ignore_changes (texts-back (codes "ignoreChanges") message told.ignore_changes ignored)
    ∙ then_some (texts_or_none (present (codes "additionalSecretOutputs") message)) _ told.additional_secret_outputs
    (texts-back (codes "additionalSecretOutputs") message told.additional_secret_outputs secrets)
    ∙ then_some (text_if_there (present (codes "deletedWith") message)) _ told.deleted_with (text-back (codes "deletedWith") message told.deleted_with deleted)
    ∙ then_some (text_if_there (present (codes "importId") message)) _ told.import_id (text-back (codes "importId") message told.import_id import)

-- ---- registrations

-- what a registration's form says of it
record IsProper (n : ℕ) (told : Registration) : Type 0 where
  number : is_request_number n ≡ true
  reads : reads_custom told.custom told.read_id ≡ true
  rising : are_rising (keys_of told.property_dependencies) ≡ true

proper_from : (n : ℕ) (told : Registration) → (is_request_number n && is_formed_registration told) ≡ true → IsProper n told
proper_from n told formed =
    let outer = and_parts (is_request_number n) (is_formed_registration told) formed in
    let inner = and_parts (reads_custom told.custom told.read_id && are_rising (keys_of told.property_dependencies)) (are_shallow told.inputs) outer.1 in
    let parts = and_parts (reads_custom told.custom told.read_id) (are_rising (keys_of told.property_dependencies)) inner.0 in
    record { number = outer.0; reads = parts.0; rising = parts.1 }

register_rising : (n : ℕ) (told : Registration) → are_rising (keys_of (register_fields n told)) ≡ true
register_rising n told = refl

abbrev registering : ℕ → Registration → Data
registering n told = object_with (register_fields n told)

register-fields : (n : ℕ) (told : Registration) → is_request_number n ≡ true → are_rising (keys_of told.property_dependencies) ≡ true → IsTellable told → told.read_id ≡ None
    → register_of (registering n told) ≡ Some (request.Register n told)
unfolding register_of
register-fields n told number rising is none =
    let message = registering n told in
    let at = λ (name : List ℕ). get-object_with name (register_fields n told) (register_rising n told) in
    then_some (request_number (get (codes "n") message)) _ n (number-back (codes "n") message n (at (codes "n")) number)
    ∙ then_some (names_of message) _ (names_in told)
    (names-back message told is.parent (at (codes "type")) (at (codes "name")) (at (codes "parent") ∙ over_none _) (at (codes "provider") ∙ over_none _) (at (codes "version") ∙ over_none _))
    ∙ then_some (links_of message) _ (links_in told)
    (links-back message told is.inputs rising (at (codes "inputs") ∙ over_none _) (at (codes "dependencies") ∙ over_none _) (at (codes "propertyDependencies") ∙ over_none _))
    ∙ then_some (flags_of message) _ (flags_in told)
    (flags-back message told (at (codes "custom")) (at (codes "protect") ∙ over_none _) (at (codes "retainOnDelete") ∙ over_none _) (at (codes "deleteBeforeReplace") ∙ over_none _))
    ∙ then_some (extras_of message) _ (extras_in told)
    (extras-back message told (at (codes "aliases") ∙ over_none _) (at (codes "ignoreChanges") ∙ over_none _) (at (codes "additionalSecretOutputs") ∙ over_none _) (at (codes "deletedWith") ∙ over_none _)
    (at (codes "importId") ∙ over_none _))
    ∙ ap (λ id. Some (request.Register n (record told { read_id = id }))) (sym none)

register-back : (n : ℕ) (told : Registration) → is_request_number n ≡ true → are_rising (keys_of told.property_dependencies) ≡ true → IsTellable told → told.read_id ≡ None
    → word_read (register_data n told) ≡ Some (Asks (request.Register n told))
unfolding word_read register_data
register-back n told number rising is none =
    let message = registering n told in
    let call = get-object_with (codes "call") (register_fields n told) (register_rising n told) in
    then_some (text (get (codes "call") message)) _ (codes "register") (ap text call)
    ∙ ap (option_map Asks) (register-fields n told number rising is none)

-- ---- readings

read_rising : (n : ℕ) (id : List ℕ) (told : Registration) → are_rising (keys_of (read_fields n id told)) ≡ true
read_rising n id told = refl

abbrev reading_data : ℕ → List ℕ → Registration → Data
reading_data n id told = object_with (read_fields n id told)

read-fields : (n : ℕ) (id : List ℕ) (told : Registration) → is_request_number n ≡ true → are_rising (keys_of told.property_dependencies) ≡ true → not (has_none id) ≡ true → IsTellable told
    → as_reading told ≡ told → told.read_id ≡ Some id → read_of (reading_data n id told) ≡ Some (request.Register n told)
unfolding read_of
read-fields n id told number rising some is alone found =
    let message = reading_data n id told in
    let at = λ (name : List ℕ). get-object_with name (read_fields n id told) (read_rising n id told) in
    then_some (request_number (get (codes "n") message)) _ n (number-back (codes "n") message n (at (codes "n")) number)
    ∙ then_some (names_of message) _ (names_in told)
    (names-back message told is.parent (at (codes "type")) (at (codes "name")) (at (codes "parent") ∙ over_none _) (at (codes "provider") ∙ over_none _) (at (codes "version") ∙ over_none _))
    ∙ then_some (nonempty_text (get (codes "id") message)) _ id (nonempty-back (codes "id") message id (at (codes "id")) some)
    ∙ then_some (links_of message) _ (links_in told)
    (links-back message told is.inputs rising (at (codes "inputs") ∙ over_none _) (at (codes "dependencies") ∙ over_none _) (at (codes "propertyDependencies") ∙ over_none _))
    ∙ ap (λ one. Some (request.Register n (record (as_reading told) { read_id = one }))) (sym found)
    ∙ ap (λ one. Some (request.Register n one)) alone

read-back : (n : ℕ) (id : List ℕ) (told : Registration) → is_request_number n ≡ true → are_rising (keys_of told.property_dependencies) ≡ true → not (has_none id) ≡ true → IsTellable told
    → as_reading told ≡ told → told.read_id ≡ Some id → word_read (read_data n id told) ≡ Some (Asks (request.Register n told))
unfolding word_read read_data
read-back n id told number rising some is alone found =
    let message = reading_data n id told in
    let call = get-object_with (codes "call") (read_fields n id told) (read_rising n id told) in
    then_some (text (get (codes "call") message)) _ (codes "read") (ap text call)
    ∙ ap (option_map Asks) (read-fields n id told number rising some is alone found)

told-back : (n : ℕ) (told : Registration) (id : Option (List ℕ)) → told.read_id ≡ id → IsProper n told → IsTellable told → word_read (told_data n told id) ≡ Some (Asks (request.Register n told))
told-back n told None found proper is = register-back n told proper.number proper.rising is found
told-back n told (Some id) found proper is =
    let reads : reads_custom told.custom (Some id) ≡ true = ap (reads_custom told.custom) (sym found) ∙ proper.reads in
    let some = and_parts told.custom (not (has_none id)) reads in
    let alone : as_reading told ≡ told = subst (λ (o : Option (List ℕ)). IfSome o (λ one. as_reading told ≡ told)) found is.reading in
    read-back n id told proper.number proper.rising some.1 is alone found

-- ---- the other requests

outputs-back : (n : ℕ) (urn : List ℕ) (outputs : Pairs) → is_request_number n ≡ true → AreReadable outputs → word_read (outputs_data n urn outputs) ≡ Some (Asks (request.Outputs n urn outputs))
unfolding word_read outputs_data outputs_of
outputs-back n urn outputs number are = rw (numbered n number, pairs-back outputs are) refl

invoke-back : (n : ℕ) (token : List ℕ) (args : Pairs) (provider version : Option (List ℕ)) → is_request_number n ≡ true → AreReadable args
    → word_read (invoke_data n token args provider version) ≡ Some (Asks (request.Invoke n token args provider version))
unfolding word_read invoke_data invoke_of
invoke-back n token args provider version number are =
    let message = object_with (invoke_fields n token args provider version) in
    let at = λ (name : List ℕ). get-object_with name (invoke_fields n token args provider version) refl in
    then_some (text (get (codes "call") message)) _ (codes "invoke") (ap text (at (codes "call")))
    ∙ ap (option_map Asks) (
    then_some (request_number (get (codes "n") message)) _ n (number-back (codes "n") message n (at (codes "n")) number)
    ∙ then_some (text (get (codes "token") message)) _ token (ap text (at (codes "token")))
    ∙ then_some (pairs_or_none (present (codes "args") message)) _ args (pairs_or_none-back (codes "args") message args (at (codes "args") ∙ over_none _) are)
    ∙ then_some (text_if_there (present (codes "provider") message)) _ provider (text-back (codes "provider") message provider (at (codes "provider") ∙ over_none _))
    ∙ then_some (text_if_there (present (codes "version") message)) _ version (text-back (codes "version") message version (at (codes "version") ∙ over_none _)))

-- ---- the word

word-back : (word : HostWord) → is_formed_word word ≡ true → IsReadableWord word → word_read (word_data word) ≡ Some word
unfolding word_read
word-back (Asks (request.Register n told)) formed is = told-back n told told.read_id refl (proper_from n told formed) is
word-back (Asks (request.Outputs n urn outputs)) formed is =
    outputs-back n urn outputs (and_parts (is_request_number n) (are_shallow outputs) formed).0 is
word-back (Asks (request.Invoke n token args provider version)) formed is =
    invoke-back n token args provider version (and_parts (is_request_number n) (are_shallow args) formed).0 is
word-back Success formed is = refl
word-back (Error why) formed is = refl

-- ---- the text

early-read : (told : Registration) → IsTellable told → FieldsAreRead 126 (early_fields told)
early-read told is = (
  texts-read told.additional_secret_outputs,
  (
    texts-read told.aliases,
    (
      string-read 126 _,
      (
        boolean-read 126 told.custom,
        (
          flag_if_there-read 126 told.delete_before_replace,
          (
            text-read 126 told.deleted_with,
            (
              texts-read told.dependencies,
              (
                texts-read told.ignore_changes,
                (
                  text-read 126 told.import_id,
                  (pairs-read told.inputs is.inputs, tt),
                ),
              ),
            ),
          ),
        ),
      ),
    ),
  ),
)

late-read : (n : ℕ) (told : Registration) → is_request_number n ≡ true → are_rising (keys_of told.property_dependencies) ≡ true → FieldsAreRead 126 (late_fields n told)
late-read n told number rising = (
  number-read 126 n number,
  (
    string-read 126 _,
    (
      text-read 126 told.parent,
      (
        keyed-read told.property_dependencies rising,
        (
          flag-read 126 told.protect,
          (
            text-read 126 told.provider,
            (
              flag-read 126 told.retain_on_delete,
              (
                string-read 126 _,
                (text-read 126 told.version, tt),
              ),
            ),
          ),
        ),
      ),
    ),
  ),
)

append-read : (levels : ℕ) (early late : List Field) → FieldsAreRead levels early → FieldsAreRead levels late → FieldsAreRead levels (early ++ late)
append-read levels [] late one two = two
append-read levels (field ∷ more) late one two = (one.0, append-read levels more late one.1 two)

register-read : (n : ℕ) (told : Registration) → IsProper n told → IsTellable told → IsRead max_depth (register_data n told)
unfolding register_data
register-read n told proper is =
    object_with-read 126 (register_fields n told) refl
    (append-read 126 (early_fields told) (late_fields n told) (early-read told is) (late-read n told proper.number proper.rising))

early_reading-read : (id : List ℕ) (told : Registration) → IsTellable told → FieldsAreRead 126 (early_read_fields id told)
early_reading-read id told is = (string-read 126 _, (texts-read told.dependencies, (string-read 126 id, (pairs-read told.inputs is.inputs, tt))))

late_reading-read : (n : ℕ) (told : Registration) → IsProper n told → FieldsAreRead 126 (late_read_fields n told)
late_reading-read n told proper = (
  number-read 126 n proper.number,
  (
    string-read 126 _,
    (
      text-read 126 told.parent,
      (keyed-read told.property_dependencies proper.rising, (text-read 126 told.provider, (string-read 126 _, (text-read 126 told.version, tt)))),
    ),
  ),
)

reading-read : (n : ℕ) (id : List ℕ) (told : Registration) → IsProper n told → IsTellable told → IsRead max_depth (read_data n id told)
unfolding read_data
reading-read n id told proper is =
    object_with-read 126 (read_fields n id told) refl
    (append-read 126 (early_read_fields id told) (late_read_fields n told) (early_reading-read id told is) (late_reading-read n told proper))

told-read : (n : ℕ) (told : Registration) (id : Option (List ℕ)) → IsProper n told → IsTellable told → IsRead max_depth (told_data n told id)
told-read n told None proper is = register-read n told proper is
told-read n told (Some id) proper is = reading-read n id told proper is

outputs-read : (n : ℕ) (urn : List ℕ) (outputs : Pairs) → is_request_number n ≡ true → AreReadable outputs → IsRead max_depth (outputs_data n urn outputs)
unfolding outputs_data
outputs-read n urn outputs number are =
    object_with-read 126 (outputs_fields n urn outputs) refl
    (string-read 126 _, (number-read 126 n number, (pairs-read-at 126 outputs (omega arith) are, (string-read 126 urn, tt))))

invoke-read : (n : ℕ) (token : List ℕ) (args : Pairs) (provider version : Option (List ℕ)) → is_request_number n ≡ true → AreReadable args
    → IsRead max_depth (invoke_data n token args provider version)
unfolding invoke_data
invoke-read n token args provider version number are =
    object_with-read 126 (invoke_fields n token args provider version) refl
    (pairs-read args are, (string-read 126 _, (number-read 126 n number, (text-read 126 provider, (string-read 126 token, (text-read 126 version, tt))))))

word_data-read : (word : HostWord) → is_formed_word word ≡ true → IsReadableWord word → IsRead max_depth (word_data word)
word_data-read (Asks (request.Register n told)) formed is = told-read n told told.read_id (proper_from n told formed) is
word_data-read (Asks (request.Outputs n urn outputs)) formed is = outputs-read n urn outputs (and_parts (is_request_number n) (are_shallow outputs) formed).0 is
word_data-read (Asks (request.Invoke n token args provider version)) formed is =
    invoke-read n token args provider version (and_parts (is_request_number n) (are_shallow args) formed).0 is
word_data-read Success formed is = object_with-read 126 ((codes "call", call_data called.Done) ∷ []) refl (string-read 126 _, tt)
word_data-read (Error why) formed is =
    object_with-read 126 ((codes "call", call_data called.Failed) ∷ (codes "text", one_text why) ∷ []) refl (string-read 126 _, (string-read 126 why, tt))

pub words_are_read : WordsAreRead
unfolding word_in word_text
words_are_read word formed is utf8 =
    ap (option_and_then word_read) (json_of_text _ _ utf8 (outlines.text-read (word_data word) (word_data-read word formed is)))
    ∙ word-back word formed is
