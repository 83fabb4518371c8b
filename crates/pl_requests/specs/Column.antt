-- What a told request changes of goals and told requests.
pub use Rattle.pl_told.specs.Column.{Kept}
use Rattle.std.specs.Prelude.{◌≡◌, None, List, ◌++◌}
use Rattle.pl_state.specs.declared.goal.Goal.{Goal}
use Rattle.pl_events.specs.declared.event.Request.{Request}
use Rattle.pl_model.specs.declared.fixed.Fixed.{Fixed}
use Rattle.pl_model.specs.declared.heard.Fate.{Fate}
use Rattle.pl_model.specs.declared.heard.Fate.TheVariants.{Accepted}
use Rattle.pl_model.specs.Known.{Known}
use Rattle.pl_model.specs.Requests.{asked_by, fate_of, goals_by, refusal_of}
use Rattle.pl_told.specs.Column.{Change, made_by}
use Rattle.pl_requests.specs.declared.making.Making.{Making}
use Rattle.pl_requests.specs.Ids.{known_over}

-- a request that makes no goal and is about none
abbrev pub unmade : Request → Fate → Change
unmade request fate =
    record { own = None; default = None; heard = record { request = request; fate = fate; about = None } }

-- an accepted request with the goals that it makes and the one that it is about
abbrev pub accepted_with : Making → Request → Change
accepted_with making request = record {
  own = making.own;
  default = making.default;
  heard = record { request = request; fate = Accepted; about = making.about };
}

-- a change is what a request of this fate makes of goals and requests
pub record IsToldAs (known : Known) (request : Request) (fate : Fate) (change : Change) : Type 0 where
  pub goals : made_by change ++ known.goals ≡ goals_by known request fate
  pub heard : change.heard ≡ asked_by known request fate

-- a change is what a told request makes of them
abbrev pub IsTold : Known → Request → Change → Type 0
IsTold known request change = IsToldAs known request (fate_of known request) change

-- a change is that of a request of this fate, which is accepted only where it is not refused
abbrev pub IsChangeBy : Fixed → List Goal → Request → Fate → Change → Type 0
IsChangeBy run goals request fate change = (known : Known)
    → (fate ≡ Accepted → refusal_of (known_over run goals known) request ≡ None)
    → IsToldAs (known_over run goals known) request fate change
