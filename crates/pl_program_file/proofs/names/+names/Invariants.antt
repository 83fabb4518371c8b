use Rattle.std.proofs.Common.{◌≡◌, ◌++◌, take}
use Rattle.pl_program_file.specs.Names.{names_in_fields, names_in_values}
use Rattle.pl_program_file.proofs.names.+names.Given as goal

-- the names in the first ones were added
abbrev pub invariant-add_value_names-loop-value : goal.invariant-add_value_names-loop-value
invariant-add_value_names-loop-value l = l.names ≡ l.fn.names ++ names_in_values (take l.value-index l.values)

abbrev pub invariant-add_field_names-loop-value : goal.invariant-add_field_names-loop-value
invariant-add_field_names-loop-value l = l.names ≡ l.fn.names ++ names_in_fields (take l.value-index l.fields)
