-- Which resources a program's values and resources use, by name.
use Rattle.std.specs.Prelude.{ℕ, List, [], ◌∷◌, ◌++◌, Bool, true, not, ◌&&◌, bytes_eq, Option, None, Some, option_map}
use Rattle.std.specs.List.{flat_map, list_all, list_any}
use Rattle.std.specs.Option.{option_to_list}
use Rattle.pl_value.specs.declared.value.Value.{Value}
use Rattle.pl_value.specs.declared.value.Value.TheOpen.{Value-F}
use Rattle.pl_value.specs.declared.value.Value.TheFolds.{fold-Value}
use Rattle.pl_program_file.specs.Reference.{is_name, reference_in}
use Rattle.pl_program_file.specs.declared.program.Links.{Links}
use Rattle.pl_program_file.specs.declared.program.Resource.{Resource}

abbrev pub Name : Type 0
Name = List ℕ

-- the name in a text that is a reference
abbrev pub name_in : List ℕ → List Name
name_in text = option_to_list (option_map (λ found. found.0) (reference_in text))

-- one level, with the names in each value inside
abbrev pub names_level : Value-F (List Name) → List Name
names_level Value-F.Null = []
names_level (Value-F.Flag flag) = []
names_level (Value-F.Whole number) = []
names_level (Value-F.Text text) = name_in text
names_level (Value-F.List each) = flat_map (λ names. names) each
names_level (Value-F.Object fields) = flat_map (λ field. field.1) fields
names_level (Value-F.Secret names) = names
names_level Value-F.Unknown = []

-- the names that references in the value use, in reading order
abbrev pub names_in : Value → List Name
names_in = fold-Value (List Name) names_level

abbrev pub names_in_values : List Value → List Name
names_in_values values = flat_map names_in values

abbrev pub names_in_fields : List (List ℕ × Value) → List Name
names_in_fields fields = flat_map (λ field. names_in field.1) fields

-- the names in a resource's options
abbrev pub linked_names : Links → List Name
linked_names links =
    option_to_list links.parent ++ option_to_list links.provider ++ option_to_list links.deleted_with ++ links.depends_on

-- the names that a resource uses
abbrev pub names_of : Resource → List Name
names_of resource = linked_names resource.links ++ names_in_fields resource.inputs

-- ---- which names may stand

-- whether one of the resources has the name
abbrev pub has_name : List Resource → Name → Bool
has_name resources name = list_any (λ resource. bytes_eq resource.name name) resources

-- whether each of the names is that of one of the resources
abbrev pub have_names : List Resource → List Name → Bool
have_names resources names = list_all (has_name resources) names

-- whether the resource may stand behind these: its name is a new one, and it uses names of theirs alone
abbrev pub may_follow : List Resource → Resource → Bool
may_follow earlier resource =
    is_name resource.name && not (has_name earlier resource.name) && have_names earlier (names_of resource)

-- whether each of the resources may stand behind these and those before it
abbrev pub may_all_follow : List Resource → List Resource → Bool
may_all_follow earlier [] = true
may_all_follow earlier (resource ∷ more) = may_follow earlier resource && may_all_follow (earlier ++ resource ∷ []) more

-- whether the outputs, if there are any, use names of the resources alone
abbrev pub may_be_told : List Resource → Option (List (List ℕ × Value)) → Bool
may_be_told resources None = true
may_be_told resources (Some outputs) = have_names resources (names_in_fields outputs)
