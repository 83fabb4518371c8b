use Rattle.std.proofs.Common.{◌≡◌, take}
use Rattle.std.specs.Option.{option_copied}
use Rattle.pl_path.specs.Found.{found_from}
use Rattle.pl_path.specs.Reset.{reset_in, with_changed_field}
use Rattle.pl_path.proofs.reset.+reset.Given as goal

-- what was made are the first ones
abbrev pub invariant-change_field-loop-name : goal.invariant-change_field-loop-name
invariant-change_field-loop-name l =
    l.made ≡ with_changed_field (reset_in l.path (found_from l.path (option_copied l.old))) l.key (take l.name-index l.fields)
