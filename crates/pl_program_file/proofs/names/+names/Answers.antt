use Rattle.std.proofs.Common.{◌≡◌, ◌++◌, ℕ, List, OnOk, sym, subst}
use Rattle.pl_program_file.proofs.Levels.{names_in-List, names_in-Object}
use Rattle.pl_program_file.specs.Names.{Name, names_in, names_in_fields, names_in_values}
use Rattle.pl_program_file.proofs.names.+names.Goals as goal

pub add_names-returns-in-List : goal.add_names-returns-in-List
add_names-returns-in-List t c =
    let is : names_in c.args.value.now ≡ names_in_values c.as_slice.result.now = cc (names_in-List c.in-List.values) in
    subst (λ (names : List Name). OnOk c.add_value_names.result (c.add_value_names.new.names ≡ c.args.names.now ++ names)) (sym is) c.add_value_names.ensures

pub add_names-returns-in-Object : goal.add_names-returns-in-Object
add_names-returns-in-Object t c =
    let is : names_in c.args.value.now ≡ names_in_fields c.as_slice-in-Object.result.now = cc (names_in-Object c.in-Object.fields) in
    subst (λ (names : List Name). OnOk c.add_field_names.result (c.add_field_names.new.names ≡ c.args.names.now ++ names)) (sym is) c.add_field_names.ensures
