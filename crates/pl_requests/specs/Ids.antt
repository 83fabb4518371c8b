-- What a fate is read from: a run, its goals, and the ids of the providers that are recorded.
use Rattle.std.specs.Prelude.{◌≡◌, ℕ, ◌&&◌, Option, List, option_and_then, slice_get}
use Rattle.pl_lemmas.specs.Words.{only_if, some_passes}
use Rattle.pl_state.specs.Kinds.{is_provider_goal}
use Rattle.pl_state.specs.declared.goal.Goal.{Goal}
use Rattle.pl_model.specs.declared.fixed.Fixed.{Fixed}
use Rattle.pl_model.specs.Known.{Known, goal_at, is_recorded, provider_id}

-- the id that the provider of a number is recorded with
abbrev pub recorded_id : Known → ℕ → Option (List ℕ)
recorded_id known number =
    only_if (is_recorded known number && some_passes is_provider_goal (goal_at known number)) (provider_id known number)

-- the id that stands at a place, if one does
abbrev pub id_at : List (Option (List ℕ)) → ℕ → Option (List ℕ)
id_at ids number = option_and_then (λ id. id) (slice_get ids number)

-- the ids, each at the number of its goal, are those of the recorded providers
abbrev pub TellsIds : List (Option (List ℕ)) → Known → Type 0
TellsIds ids known = (number : ℕ) → id_at ids number ≡ recorded_id known number

-- what is known, with this run and these goals in it
abbrev pub known_over : Fixed → List Goal → Known → Known
known_over run goals known = record known { run = run; goals = goals }

-- something holds of whatever is known of this run with these goals and these ids of recorded providers
abbrev pub ForKnown : Fixed → List Goal → List (Option (List ℕ)) → (Known → Type 0) → Type 0
ForKnown run goals ids Says = (known : Known) → TellsIds ids (known_over run goals known) → Says (known_over run goals known)
