-- References that are looked up among goals, and the default provider that a package may have.
use Rattle.std.specs.Prelude.{ℕ, Bool, not, if◌then◌else◌, Option, None, Some, is_some, List, bytes_eq}
use Rattle.pl_lemmas.specs.Words.{none_or, some_passes}
use Rattle.pl_options.specs.Names.{default_provider_urn}
use Rattle.pl_reference.specs.Reference.{reference_in}
use Rattle.pl_state.specs.declared.goal.Goal.{Goal}
use Rattle.pl_value.specs.Marks.{unknown_text}
use Rattle.pl_model.specs.declared.fixed.Fixed.{Fixed}
use Rattle.pl_model.specs.Claims.{goal_number}
use Rattle.pl_model.specs.Requests.{is_bad_default}
use Rattle.pl_requests.specs.Ids.{id_at}

-- ---- references

-- whether no goal has this URN
abbrev pub is_unknown : List Goal → List ℕ → Bool
is_unknown goals urn = not (is_some (goal_number goals urn))

-- whether the id at a number is this one
abbrev pub has_id_at : List (Option (List ℕ)) → List ℕ → ℕ → Bool
has_id_at ids id number = some_passes (λ own. bytes_eq own id) (id_at ids number)

-- whether a provider reference names a goal at whose number its id stands
abbrev pub is_met_by : List Goal → List (Option (List ℕ)) → List ℕ × List ℕ → Bool
is_met_by goals ids reference = some_passes (has_id_at ids reference.1) (goal_number goals reference.0)

abbrev pub is_met_text : List Goal → List (Option (List ℕ)) → List ℕ → Bool
is_met_text goals ids text = some_passes (is_met_by goals ids) (reference_in text)

abbrev pub is_unmet_text : List Goal → List (Option (List ℕ)) → List ℕ → Bool
is_unmet_text goals ids text = not (is_met_text goals ids text)

-- ---- default providers

-- the URN of a package's default provider, where its type makes one
abbrev pub allowed_default : Fixed → List ℕ → Option (List ℕ) → Option (List ℕ)
allowed_default run provided version =
    if is_bad_default provided version then None else Some (default_provider_urn run.stack run.project provided version)

-- whether a text is other than that of the unknown
abbrev pub is_known_text : List ℕ → Bool
is_known_text text = not (bytes_eq text unknown_text)

-- whether a version is other than that, if it is given
abbrev pub is_known_version : Option (List ℕ) → Bool
is_known_version version = none_or is_known_text version
