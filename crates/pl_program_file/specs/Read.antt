-- The program that a file spells. Fields that are not named here are passed over.
use Rattle.std.specs.Prelude.{ℕ, List, [], codes, Bool, true, false, ◌&&◌, if◌then◌else◌, Option, None, Some, option_and_then, is_some}
use Rattle.serde_json.specs.Data.{Data, object, no_members}
use Rattle.serde_json.specs.Find.{get, as_array, as_object}
use Rattle.pl_json.specs.Texts.{json_of}
use Rattle.pl_members.specs.Field.{◌>>=◌, Pairs, each_item, flag_if_there, flag_or, pairs_if_there, pairs_or_none, present, text, text_if_there, texts_or_none}
use Rattle.pl_program_file.specs.Names.{may_all_follow, may_be_told}
use Rattle.pl_program_file.specs.declared.program.Links.{Links}
use Rattle.pl_program_file.specs.declared.program.Program.{Program}
use Rattle.pl_program_file.specs.declared.program.Resource.{Resource}
use Rattle.pl_program_file.specs.declared.program.Settings.{Settings}

-- the names in the options
unfoldable pub links_read : Data → Option Links
links_read given = do
  parent ← text_if_there (present (codes "parent") given)
  provider ← text_if_there (present (codes "provider") given)
  deleted_with ← text_if_there (present (codes "deletedWith") given)
  depends_on ← texts_or_none (present (codes "dependsOn") given)
  Some (record { parent = parent; provider = provider; deleted_with = deleted_with; depends_on = depends_on })

-- the other options
unfoldable pub settings_read : Data → Option Settings
settings_read given = do
  protect ← flag_or false (present (codes "protect") given)
  retain_on_delete ← flag_or false (present (codes "retainOnDelete") given)
  delete_before_replace ← flag_if_there (present (codes "deleteBeforeReplace") given)
  aliases ← texts_or_none (present (codes "aliases") given)
  ignore_changes ← texts_or_none (present (codes "ignoreChanges") given)
  additional_secret_outputs ← texts_or_none (present (codes "additionalSecretOutputs") given)
  import_id ← text_if_there (present (codes "importId") given)
  version ← text_if_there (present (codes "version") given)
  Some (record {
    protect = protect;
    aliases = aliases;
    ignore_changes = ignore_changes;
    delete_before_replace = delete_before_replace;
    retain_on_delete = retain_on_delete;
    additional_secret_outputs = additional_secret_outputs;
    import_id = import_id;
    version = version;
  })

unfoldable pub options_read : Data → Option (Links × Settings)
options_read given = do
  links ← links_read given
  settings ← settings_read given
  Some (links, settings)

-- the options, which are an object; absent ones are an empty object
abbrev pub options_in : Option Data → Option (Links × Settings)
options_in None = options_read (object no_members)
options_in (Some given) = if is_some (as_object given) then options_read given else None

-- a resource
unfoldable pub resource_read : Data → Option Resource
resource_read given = do
  name ← text (get (codes "name") given)
  kind ← text (get (codes "type") given)
  custom ← flag_or true (present (codes "custom") given)
  inputs ← pairs_or_none (present (codes "inputs") given)
  options ← options_in (present (codes "options") given)
  Some (record { name = name; kind = kind; custom = custom; inputs = inputs; links = options.0; settings = options.1 })

-- the list of resources, which has to be there
abbrev pub resources_in : Option Data → Option (List Resource)
resources_in list = option_and_then (each_item resource_read) (option_and_then as_array list)

-- whether each resource may stand where it does, and the outputs use names of resources alone
abbrev pub is_formed : List Resource → Option Pairs → Bool
is_formed resources outputs = may_all_follow [] resources && may_be_told resources outputs

abbrev pub if_formed : Program → Option Program
if_formed program = if is_formed program.resources program.outputs then Some program else None

unfoldable pub program_read : Data → Option Program
program_read given = do
  resources ← resources_in (get (codes "resources") given)
  outputs ← pairs_if_there (present (codes "outputs") given)
  if_formed (record { resources = resources; outputs = outputs })

-- the program that the bytes of a file spell
unfoldable pub program_of : List ℕ → Option Program
program_of bytes = option_and_then program_read (json_of bytes)
