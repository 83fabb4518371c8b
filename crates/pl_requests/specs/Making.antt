-- The goals that an accepted request makes, and the one that it is about.
use Rattle.std.specs.Prelude.{◌≡◌, ℕ, Option, None, Some, List, ◌++◌, length}
use Rattle.pl_lemmas.specs.Words.{option_list}
use Rattle.pl_state.specs.declared.goal.Goal.{Goal}
use Rattle.pl_events.specs.declared.event.Request.{Request}
use Rattle.pl_model.specs.declared.fixed.Fixed.{Fixed}
use Rattle.pl_model.specs.Claims.{goal_number}
use Rattle.pl_model.specs.Known.{Known}
use Rattle.pl_model.specs.Requests.{about_of, default_urn, goals_made, refusal_of, with_default}
use Rattle.pl_requests.specs.declared.default.DefaultProvider.{DefaultProvider}
use Rattle.pl_requests.specs.declared.making.Making.{Making}
use Rattle.pl_requests.specs.Ids.{known_over}

-- the goals of a making, newest first
abbrev pub goals_in : Making → List Goal
goals_in making = option_list making.own ++ option_list making.default

-- with the goals of a making there are these goals, and it is about this one
pub record Makes (known : Known) (all : List Goal) (subject : Option ℕ) (making : Making) : Type 0 where
  pub goals : goals_in making ++ known.goals ≡ all
  pub about : making.about ≡ subject

-- a making is that of a request, where it is not refused
abbrev pub MakesFor : Fixed → List Goal → Request → Making → Type 0
MakesFor run goals request making = (known : Known) → refusal_of (known_over run goals known) request ≡ None
    → Makes (known_over run goals known) (goals_made (known_over run goals known) request)
    (about_of (known_over run goals known) request) making

-- a goal with its provider's number, after the default provider that is missing; it is the newest one then
abbrev pub own_making : List Goal → Option Goal → Goal → Option ℕ → Making
own_making goals missing goal provider = record {
  default = missing;
  own = Some (record goal { provider = provider });
  about = Some (length (option_list missing ++ goals));
}

-- a default provider stands then, with this number
pub record Provides (known : Known) (provided : List ℕ) (version : Option (List ℕ)) (provider : DefaultProvider) : Type 0 where
  pub goals : option_list provider.missing ++ known.goals ≡ with_default known provided version
  pub number : provider.number ≡ goal_number (with_default known provided version) (default_urn known provided version)
