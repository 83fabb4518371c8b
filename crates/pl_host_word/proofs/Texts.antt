-- What is written for a word's value is the word's text, which is the body of a frame unless it is too long.
use Rattle.std.proofs.Common.{◌≡◌, ◌≤◌, ℕ, false, List, length, Option, Some, None, IfOk, refl, sym, ap, subst, ◌∙◌, arith}
use Rattle.serde_json.specs.Data.{Data}
use Rattle.serde_json.specs.Written.{compact_text, has_float}
use Rattle.pl_json.proofs.NoFloat.{has_float-spelled_members}
use Rattle.pl_state.specs.declared.goal.Registration.{Registration}
use Rattle.pl_events.specs.declared.event.Request.TheVariants as request
use Rattle.pl_members.specs.Field.{Pairs}
use Rattle.pl_members.proofs.NoFloats.{AreWhole, append-whole, flag-whole, flag_if_there-whole, keyed-whole, object-whole, pairs-whole, text-whole, texts-whole}
use Rattle.pl_json.specs.Objects.{Field, object_with}
use Rattle.pl_host_word.specs.Spelled.{early_fields, early_read_fields, invoke_data, invoke_fields, late_fields, late_read_fields, outputs_data, read_data, read_fields, register_data, register_fields, told_data, word_data, word_text}
use Rattle.pl_host_word.specs.declared.word.HostWord.{HostWord}
use Rattle.pl_host_word.specs.declared.word.HostWord.TheVariants.{Request as Asks, Success, Error}

-- ---- no word holds a float

early-whole : (told : Registration) → AreWhole (early_fields told)
early-whole told = (
  texts-whole told.additional_secret_outputs,
  (
    texts-whole told.aliases,
    (
      refl,
      (
        refl,
        (
          flag_if_there-whole told.delete_before_replace,
          (
            text-whole told.deleted_with,
            (
              texts-whole told.dependencies,
              (
                texts-whole told.ignore_changes,
                (
                  text-whole told.import_id,
                  (pairs-whole told.inputs, tt),
                ),
              ),
            ),
          ),
        ),
      ),
    ),
  ),
)

late-whole : (n : ℕ) (told : Registration) → AreWhole (late_fields n told)
late-whole n told = (
  refl,
  (
    refl,
    (
      text-whole told.parent,
      (
        keyed-whole told.property_dependencies,
        (
          flag-whole told.protect,
          (
            text-whole told.provider,
            (
              flag-whole told.retain_on_delete,
              (
                refl,
                (text-whole told.version, tt),
              ),
            ),
          ),
        ),
      ),
    ),
  ),
)

register-whole : (n : ℕ) (told : Registration) → has_float (register_data n told) ≡ false
unfolding register_data
register-whole n told = object-whole (register_fields n told) (append-whole (early_fields told) (late_fields n told) (early-whole told) (late-whole n told))

early_read-whole : (id : List ℕ) (told : Registration) → AreWhole (early_read_fields id told)
early_read-whole id told = (refl, (texts-whole told.dependencies, (refl, (pairs-whole told.inputs, tt))))

late_read-whole : (n : ℕ) (told : Registration) → AreWhole (late_read_fields n told)
late_read-whole n told = (
  refl,
  (
    refl,
    (text-whole told.parent, (keyed-whole told.property_dependencies, (text-whole told.provider, (refl, (text-whole told.version, tt))))),
  ),
)

read-whole : (n : ℕ) (id : List ℕ) (told : Registration) → has_float (read_data n id told) ≡ false
unfolding read_data
read-whole n id told =
    object-whole (read_fields n id told) (append-whole (early_read_fields id told) (late_read_fields n told) (early_read-whole id told) (late_read-whole n told))

told-whole : (n : ℕ) (told : Registration) (id : Option (List ℕ)) → has_float (told_data n told id) ≡ false
told-whole n told None = register-whole n told
told-whole n told (Some id) = read-whole n id told

outputs-whole : (n : ℕ) (urn : List ℕ) (outputs : Pairs) → has_float (outputs_data n urn outputs) ≡ false
unfolding outputs_data
outputs-whole n urn outputs = rw (has_float-spelled_members outputs) refl

invoke-whole : (n : ℕ) (token : List ℕ) (args : Pairs) (provider version : Option (List ℕ)) → has_float (invoke_data n token args provider version) ≡ false
unfolding invoke_data
invoke-whole n token args provider version =
    object-whole (invoke_fields n token args provider version) (pairs-whole args, (refl, (refl, (text-whole provider, (refl, (text-whole version, tt))))))

has_float-word_data : (word : HostWord) → has_float (word_data word) ≡ false
has_float-word_data (Asks (request.Register n told)) = told-whole n told told.read_id
has_float-word_data (Asks (request.Outputs n urn outputs)) = outputs-whole n urn outputs
has_float-word_data (Asks (request.Invoke n token args provider version)) = invoke-whole n token args provider version
has_float-word_data Success = refl
has_float-word_data (Error text) = refl

-- ---- the text

pub word_text_from : (word : HostWord) (value : Data) (text : List ℕ) → value ≡ word_data word → (has_float value ≡ false → text ≡ compact_text value) → text ≡ word_text word
unfolding word_text
word_text_from word value text is written = written (ap has_float is ∙ has_float-word_data word) ∙ ap compact_text is

object-some : (fields : List Field) → 1 ≤ length (compact_text (object_with fields))
object-some fields = omega arith

told-some : (n : ℕ) (told : Registration) (id : Option (List ℕ)) → 1 ≤ length (compact_text (told_data n told id))
unfolding register_data read_data
told-some n told None = object-some (register_fields n told)
told-some n told (Some id) = object-some (read_fields n id told)

pub word_text-some : (word : HostWord) → 1 ≤ length (word_text word)
unfolding word_text outputs_data invoke_data
word_text-some (Asks (request.Register n told)) = told-some n told told.read_id
word_text-some (Asks (request.Outputs n urn outputs)) = omega arith
word_text-some (Asks (request.Invoke n token args provider version)) = object-some (invoke_fields n token args provider version)
word_text-some Success = omega arith
word_text-some (Error text) = omega arith
