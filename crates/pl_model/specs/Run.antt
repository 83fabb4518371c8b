-- The fixed data of a run, and the spellings that the definitions leave to the message crates.
use Rattle.std.specs.Prelude.{◌≡◌, ℕ, Bool, true, false, Option, List, []}
use Rattle.pl_urn.specs.Grammar.{IsScope}
use Rattle.pl_value.specs.declared.value.Value.{Value}
use Rattle.pl_state.specs.declared.entry.Entry.{Entry}
use Rattle.pl_state.specs.declared.snapshot.Snapshot.{Snapshot}
use Rattle.pl_events.specs.declared.event.Request.{Request}
use Rattle.pl_events.specs.declared.event.Answer.{Answer}
use Rattle.pl_events.specs.declared.operation.Ask.{Ask}
use Rattle.pl_events.specs.declared.operation.Call.{Call}
use Rattle.pl_events.specs.declared.reply.Reply.{Reply}
use Rattle.pl_model.specs.declared.fixed.Fixed.{Fixed}
use Rattle.pl_model.specs.declared.mode.Mode.{Mode}
use Rattle.pl_model.specs.declared.mode.Mode.TheVariants.{Up, Preview, Destroy, Refresh}

-- the fields of an object, in rising order of their keys
abbrev pub Pairs : Type 0
Pairs = List (List ℕ × Value)

-- how messages and states are spelled
pub record Spelling : Type 0 where
  -- the request that a frame's body spells, if it spells one
  pub request_in : List ℕ → Option Request
  -- whether a frame's body spells the host's word of success
  pub is_success : List ℕ → Bool
  -- the text of the host's word of error that a frame's body spells, if it spells one
  pub error_in : List ℕ → Option (List ℕ)
  -- the body that answers the request of this number
  pub answer_text : ℕ → Answer → List ℕ
  -- the body that asks a provider, under a ticket
  pub ask_text : ℕ → Ask → List ℕ
  -- the reply to a call that a frame's body spells under a ticket, if it spells one
  pub reply_in : ℕ → Call → List ℕ → Option Reply
  -- the checkpoint's text
  pub state_text : Snapshot → List ℕ

-- whether a host registers goals in the run
abbrev pub has_host : Mode → Bool
has_host Up = true
has_host Preview = true
has_host Destroy = false
has_host (Refresh clear imports) = false

abbrev pub is_preview : Mode → Bool
is_preview Preview = true
is_preview _ = false

abbrev pub is_destroy : Mode → Bool
is_destroy Destroy = true
is_destroy _ = false

abbrev pub is_refresh : Mode → Bool
is_refresh (Refresh clear imports) = true
is_refresh _ = false

-- whether pending creations are let go
abbrev pub clears_creates : Mode → Bool
clears_creates (Refresh clear imports) = clear
clears_creates _ = false

-- the ids that pending creations are to be imported by, each with the URN
abbrev pub imports_of : Mode → List (List ℕ × List ℕ)
imports_of (Refresh clear imports) = imports
imports_of _ = []

-- where a run has a host, its stack and its project have names that stand in a URN
abbrev pub HasNames : Fixed → Type 0
HasNames run = has_host run.mode ≡ true → IsScope run.stack × IsScope run.project

-- the rows of the state at the start
abbrev pub rows_of : Fixed → List Entry
rows_of run = run.base.entries
