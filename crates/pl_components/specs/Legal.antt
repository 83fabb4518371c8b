-- Which histories a run may have.
use Rattle.std.specs.Prelude.{⊤, ◌≡◌, ℕ, Bool, true, false, Option, None, List, [], ◌∷◌}
use Rattle.pl_events.specs.Closing.{has_host_end, has_stop}
use Rattle.pl_events.specs.Requests.{is_formed_request}
use Rattle.pl_events.specs.declared.event.Event.{Event}
use Rattle.pl_events.specs.declared.event.What.{What}
use Rattle.pl_events.specs.declared.event.What.TheVariants.{Told, HostGone, Kept, Posted, Stopped}
use Rattle.pl_events.specs.declared.event.Request.{Request}
use Rattle.pl_events.specs.declared.event.Request.TheVariants.{Register}
use Rattle.pl_events.specs.declared.event.Stop.{Stop}
use Rattle.pl_events.specs.declared.event.Stop.TheVariants.{StoreFault, StartFault, HostPipeFault, TooManyResources, MessageTooLong, NoMemory}
use Rattle.pl_urn.specs.Grammar.{is_provider_type}
use Rattle.pl_model.specs.Run.{Spelling}
use Rattle.pl_model.specs.Legal.{HasForm}
use Rattle.pl_components.specs.Run.{Fixed}
use Rattle.pl_components.specs.Requests.{may_be_next}
use Rattle.pl_components.specs.Due.{is_post_due, is_keep_due, is_over_limit, is_too_long, answer_of, NothingDue}

-- whether a request registers a provider
abbrev pub is_of_provider_type : Request → Bool
is_of_provider_type (Register n told) = is_provider_type told.kind
is_of_provider_type _ = false

-- a request is one that a frame's body spells, has the form of one, and registers no provider
pub record IsSpelled (spelling : Spelling) (request : Request) : Type 0 where
  pub form : HasForm spelling request
  pub formed : is_formed_request request ≡ true
  pub other : is_of_provider_type request ≡ false

-- a request may be told: by the registrar, before the host's end, spelled, and where it may come next
pub record MayBeTold (run : Fixed) (spelling : Spelling) (past : List Event) (seat : ℕ) (request : Request) : Type 0 where
  pub registrar : seat ≡ 0
  pub host_open : has_host_end past ≡ false
  pub spelled : IsSpelled spelling request
  pub next : may_be_next run past request ≡ true

-- the host may end: once, as the registrar saw it
pub record MayEnd (past : List Event) (seat : ℕ) : Type 0 where
  pub registrar : seat ≡ 0
  pub host_open : has_host_end past ≡ false

-- the work that is over the limit waits for nothing else
pub record MayBeTooMany (run : Fixed) (past : List Event) : Type 0 where
  pub nothing_due : NothingDue run past
  pub some_over : (g : ℕ) × (is_over_limit run past g ≡ true)

-- a post is due whose body a frame can't have
pub record MayBeTooLong (run : Fixed) (spelling : Spelling) (past : List Event) : Type 0 where
  pub some_post : (n : ℕ) × (is_post_due run past n ≡ true)
      × (is_too_long spelling n (answer_of run spelling past n) ≡ true)

-- what a stop tells of the history before it; no provider child is started yet
abbrev pub StopFits : Fixed → Spelling → List Event → Stop → Type 0
StopFits run spelling past StoreFault = ⊤
StopFits run spelling past StartFault = ⊥
StopFits run spelling past HostPipeFault = ⊤
StopFits run spelling past TooManyResources = MayBeTooMany run past
StopFits run spelling past MessageTooLong = MayBeTooLong run spelling past
StopFits run spelling past NoMemory = ⊤

-- the run may stop: once
pub record MayStop (run : Fixed) (spelling : Spelling) (past : List Event) (stop : Stop) : Type 0 where
  pub first : has_stop past ≡ false
  pub fits : StopFits run spelling past stop

-- the keep is due; no id is made for a component
abbrev pub MayBeKept : Fixed → List Event → ℕ → Option ℕ → Type 0
MayBeKept run past goal fresh = (is_keep_due run past goal ≡ true) × (fresh ≡ None)

-- this may happen after that history, by the thread at this seat; operations, drops and clears may not yet
abbrev pub MayHappen : Fixed → Spelling → List Event → ℕ → What → Type 0
MayHappen run spelling past seat (Told request) = MayBeTold run spelling past seat request
MayHappen run spelling past seat (HostGone end) = MayEnd past seat
MayHappen run spelling past seat (Kept goal fresh) = MayBeKept run past goal fresh
MayHappen run spelling past seat (Posted n) = is_post_due run past n ≡ true
MayHappen run spelling past seat (Stopped stop) = MayStop run spelling past stop
MayHappen run spelling past seat _ = ⊥

-- every event may happen after those before it
abbrev pub IsLegal : Fixed → Spelling → List Event → Type 0
IsLegal run spelling [] = ⊤
IsLegal run spelling (event ∷ past) =
    IsLegal run spelling past × MayHappen run spelling past event.seat event.what
