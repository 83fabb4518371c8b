-- The word of a host that a frame's body spells.
use Rattle.std.specs.Prelude.{ℕ, ◌&&◌, List, codes, Bool, if◌then◌else◌, Option, Some, None, option_map, option_and_then}
use Rattle.std.specs.Str.{bytes_eq}
use Rattle.serde_json.specs.Data.{Data}
use Rattle.pl_state.specs.Component.{plain_registration}
use Rattle.pl_events.specs.declared.event.Request.{Request}
use Rattle.pl_events.specs.declared.event.Request.TheVariants.{Register}
use Rattle.pl_host_msg.specs.declared.word.HostWord.{HostWord}
use Rattle.pl_host_msg.specs.declared.word.HostWord.TheVariants.{Request as Asks, Success}
use Rattle.pl_json.specs.Texts.{json_of}
use Rattle.pl_members.specs.Field.{◌>>=◌, present, text}
use Rattle.pl_host_msg.specs.Field.{plain_type, request_number, optional_text, is_left_out, is_false, is_empty_list, is_empty_object}

-- ---- the fields of a registration that are not read yet stand at their defaults

unfoldable pub has_false_flags : Data → Bool
has_false_flags message =
    is_false (present (codes "custom") message)
    && is_false (present (codes "protect") message)
    && is_false (present (codes "retainOnDelete") message)

unfoldable pub has_empty_objects : Data → Bool
has_empty_objects message =
    is_empty_object (present (codes "inputs") message)
    && is_empty_object (present (codes "propertyDependencies") message)

unfoldable pub has_empty_lists : Data → Bool
has_empty_lists message =
    is_empty_list (present (codes "dependencies") message)
    && is_empty_list (present (codes "aliases") message)
    && is_empty_list (present (codes "ignoreChanges") message)
    && is_empty_list (present (codes "additionalSecretOutputs") message)

unfoldable pub has_no_choices : Data → Bool
has_no_choices message =
    is_left_out (present (codes "provider") message)
    && is_left_out (present (codes "deletedWith") message)
    && is_left_out (present (codes "importId") message)
    && is_left_out (present (codes "version") message)
    && is_left_out (present (codes "deleteBeforeReplace") message)

unfoldable pub has_defaults : Data → Bool
has_defaults message = has_false_flags message && has_empty_objects message && has_empty_lists message && has_no_choices message

-- ---- the word

-- the registration that the fields of a message spell
unfoldable pub register_of : Data → Option Request
register_of message = do
  n ← request_number (present (codes "n") message)
  kind ← plain_type (present (codes "type") message)
  name ← text (present (codes "name") message)
  parent ← optional_text (present (codes "parent") message)
  if has_defaults message then Some (Register n (plain_registration kind name parent)) else None

-- the word that a message with this call spells
abbrev pub word_called : List ℕ → Data → Option HostWord
word_called call message =
    if bytes_eq call (codes "done") then Some Success
    else (if bytes_eq call (codes "register") then option_map Asks (register_of message)
    else None)

-- the word that a message spells
unfoldable pub word_of_data : Data → Option HostWord
word_of_data message = do
  call ← text (present (codes "call") message)
  word_called call message

-- the word that the bytes spell; `None` where they are no message
unfoldable pub word_of : List ℕ → Option HostWord
word_of bytes = option_and_then word_of_data (json_of bytes)
