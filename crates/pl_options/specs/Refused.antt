-- What a refusal tells, and what is read where nothing is refused.
use Rattle.std.specs.Prelude.{◌≡◌, ℕ, List, Option, Some, Err, true, All}
use Rattle.pl_options.specs.GoalOf.{GoalResult, given}
use Rattle.pl_options.specs.declared.fault.BadText.{BadText}
use Rattle.pl_options.specs.declared.fault.BadText.TheVariants as text
use Rattle.pl_options.specs.declared.fault.GoalFault.{GoalFault}
use Rattle.pl_options.specs.declared.fault.GoalFault.TheVariants as goal
use Rattle.pl_options.specs.declared.reading.References.{References}
use Rattle.pl_path.specs.Grammar.{is_path}
use Rattle.pl_state.specs.declared.fault.OptionFault.{OptionFault}
use Rattle.pl_state.specs.declared.goal.Goal.{Goal}
use Rattle.pl_state.specs.declared.goal.Registration.{Registration}
use Rattle.pl_urn.specs.declared.fault.UrnFault.{UrnFault}
use Rattle.pl_urn.specs.declared.fault.UrnFault.TheVariants as urn

-- a text that is refused is the one that was found bad; want of memory says nothing of the texts
abbrev pub IsRefusedText : Option (List ℕ) → BadText → Type 0
IsRefusedText bad (text.Refused told) = bad ≡ Some told
IsRefusedText bad text.OutOfMemory = Unit {0}

-- a fault is told as it was found; want of memory says nothing of the registration
abbrev pub IsRefusedFor : Option OptionFault → GoalFault → Type 0
IsRefusedFor found (goal.Option fault) = found ≡ Some fault
IsRefusedFor found goal.OutOfMemory = Unit {0}

-- a refusal of the registration tells its fault; want of memory says nothing of it
abbrev pub IsRefusalOf : GoalResult → GoalFault → Type 0
IsRefusalOf made (goal.Option fault) = made ≡ Err fault
IsRefusalOf made goal.OutOfMemory = Unit {0}

-- a refusal of a URN tells its fault; want of memory says nothing of the parts
abbrev pub IsUrnRefusal : Option UrnFault → UrnFault → Type 0
IsUrnRefusal found urn.OutOfMemory = Unit {0}
IsUrnRefusal found fault = found ≡ Some fault

-- the URNs that a registration names
abbrev pub references_of : Registration → References
references_of told = record {
  parent = given told.parent;
  dependencies = told.dependencies;
  property_dependencies = told.property_dependencies;
  deleted_with = given told.deleted_with;
  aliases = told.aliases;
}

-- each path of a goal is one that can be read
abbrev pub HasPaths : Goal → Type 0
HasPaths goal = All (λ text. is_path text ≡ true) goal.ignore_changes
