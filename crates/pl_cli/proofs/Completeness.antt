-- What is given where nothing is missing.
use Rattle.std.proofs.Common.{rules, ◌≡◌, ℕ, Bool, true, false, List, Option, Some, None, IsSome, is_some, ◌&&◌, if◌then◌else◌, refl}
use Rattle.std.specs.Option.{option_or}
use Rattle.pl_cli.specs.Place.{given_value}
use Rattle.pl_cli.specs.Reading.{fault_place, is_complete, misplaced_word}
use Rattle.pl_cli.specs.declared.table.CommandName.{CommandName}
use Rattle.pl_cli.specs.declared.table.CommandName.TheVariants.{Up}
use Rattle.pl_cli.specs.declared.table.OptionName.TheVariants.{Stack, Project}

-- where a place and its substitute are both missing, the test that leaves the substitute out passed
no_substitute : (found : Option ℕ) (test : Bool) (place : ℕ) → option_or found (if test then None else Some place) ≡ None → test ≡ true
no_substitute None true place h = refl
no_substitute None false place h = cc
no_substitute (Some _) test place h = cc

-- without a fault, nothing is missing
pub complete : (command : CommandName) (words host : List (List ℕ)) → fault_place command words host ≡ None → is_complete command words host ≡ true
complete command words host h = no_substitute (misplaced_word command words) (is_complete command words host) _ h

both_there : (a b : Option (List ℕ)) (positional host : Bool) → ((is_some a && (is_some b && true)) && positional) && host ≡ true → IsSome a × IsSome b
both_there (Some _) (Some _) positional host h = (search rules, search rules)
both_there (Some _) None positional host h = cc
both_there None b positional host h = cc

-- a complete `up` has both of its required options
given_both : (words host : List (List ℕ)) → is_complete Up words host ≡ true → IsSome (given_value Stack words) × IsSome (given_value Project words)
unfolding is_complete
given_both words host h = both_there (given_value Stack words) (given_value Project words) _ _ h

pub given_stack : (words host : List (List ℕ)) → fault_place Up words host ≡ None → IsSome (given_value Stack words)
given_stack words host h = (given_both words host (complete Up words host h)).0

pub given_project : (words host : List (List ℕ)) → fault_place Up words host ≡ None → IsSome (given_value Project words)
given_project words host h = (given_both words host (complete Up words host h)).1
