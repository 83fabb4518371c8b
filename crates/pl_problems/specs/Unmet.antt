-- Imports whose provider no row is.
use Rattle.std.specs.Prelude.{ℕ, Option, List, option_map}
use Rattle.pl_decide.specs.declared.problem.Problem.{Problem}
use Rattle.pl_decide.specs.declared.problem.Problem.TheVariants.{UnknownReference}
use Rattle.pl_model.specs.Problems.{import_problem, unmet_provider}
use Rattle.pl_model.specs.declared.fixed.Fixed.{Fixed}
use Rattle.pl_state.specs.declared.pending.Pending.{Pending}

-- the text of a pending operation's provider reference, where no row is that provider
abbrev pub unmet_pending : Fixed → Pending → Option (List ℕ)
unmet_pending run pending = unmet_provider run pending.entry

-- the same of an import, as a problem
abbrev pub unmet_import : Fixed → List ℕ × List ℕ → Option Problem
unmet_import run pair = import_problem (λ entry. option_map UnknownReference (unmet_provider run entry)) run pair
