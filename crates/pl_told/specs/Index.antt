-- Goals by their URNs, and told requests by their numbers; both lists stand oldest first.
use Rattle.std.specs.Prelude.{◌≡◌, ℕ, ◌==◌, Bool, List, String, reverse, nat_eq}
use Rattle.std.specs.HashMap.{HashMap, get, get_by_text}
use Rattle.pl_lemmas.specs.Words.{number_where}
use Rattle.pl_state.specs.declared.goal.Goal.{Goal}
use Rattle.pl_model.specs.declared.heard.Heard.{Heard}
use Rattle.pl_model.specs.Claims.{goal_number}
use Rattle.pl_model.specs.Known.{number_of}

-- whether a told request has this number
abbrev pub has_n : ℕ → Heard → Bool
has_n n heard = number_of heard.request == n

-- under each URN stands the number of its newest goal
abbrev pub FindsGoals : {Y S : Type 0} → HashMap (String Y) ℕ S → List Goal → Type 0
FindsGoals numbers goals = (urn : List ℕ) → get_by_text numbers urn ≡ goal_number (reverse goals) urn

-- under each number stands the place of its newest request
abbrev pub FindsRequests : {S : Type 0} → HashMap ℕ ℕ S → List Heard → Type 0
FindsRequests places heard = (n : ℕ) → get nat_eq places n ≡ number_where (has_n n) (reverse heard)
