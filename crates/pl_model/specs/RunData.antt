-- What holds of a run's data and of its spelling.
use Rattle.std.specs.Prelude.{◌≡◌, ◌≢◌, ◌<◌, ◌≤◌, ℕ, true, false, All, AllPairs, IfSome, List, [], Some, length}
use Rattle.pl_sound.specs.Sound.{IsSound}
use Rattle.pl_reference.specs.declared.reference.ProviderRef.{ProviderRef}
use Rattle.pl_lemmas.specs.Words.{has_none}
use Rattle.pl_state.specs.Formed.{is_formed_row, most_resources}
use Rattle.pl_state.specs.Kinds.{is_of_provider}
use Rattle.pl_state.specs.declared.entry.Entry.{Entry}
use Rattle.pl_events.specs.Replies.{reply_fits}
use Rattle.pl_events.specs.Requests.{is_formed_request}
use Rattle.pl_events.specs.declared.event.Request.{Request}
use Rattle.pl_events.specs.declared.operation.Call.{Call}
use Rattle.pl_events.specs.declared.reply.Reply.{Reply}
use Rattle.pl_model.specs.declared.fixed.Fixed.{Fixed}
use Rattle.pl_model.specs.Run.{HasNames, Spelling, imports_of, is_refresh, rows_of}
use Rattle.pl_model.specs.Claims.{is_usable}

-- a provider reference names the URN of a provider and an id that a reference can name, as each one does that is read
pub record NamesProvider (reference : ProviderRef) : Type 0 where
  pub of_provider : is_of_provider reference.urn ≡ true
  pub usable : is_usable reference.id ≡ true

-- every provider reference of the rows does
abbrev pub NameProviders : List Entry → Type 0
NameProviders rows = All (λ row. IfSome row.provider NamesProvider) rows

-- the most children of one provider that a run may have
abbrev pub most_children : ℕ
most_children = 64

-- the data of a run, as its words and the checkpoint give them: the state at the start is sound, within the limit and
-- formed, and nothing is pending in it but where the run reads everything anew; pending creations are imported by ids
-- that are not empty, each of them once
pub record IsRun (run : Fixed) : Type 0 where
  pub sound : IsSound (rows_of run)
  pub within : length (rows_of run) ≤ most_resources
  pub formed : All (λ row. is_formed_row row ≡ true) (rows_of run)
  pub providers : NameProviders (rows_of run)
  pub nothing_pending : is_refresh run.mode ≡ false → run.base.pending ≡ []
  pub formed_pending : All (λ operation. is_formed_row operation.entry ≡ true) run.base.pending
  pub names : HasNames run
  pub some_children : 0 < run.parallel
  pub few_children : run.parallel ≤ most_children
  pub import_ids : All (λ pair. has_none pair.0 ≡ false) (imports_of run.mode)
  pub imports_apart : AllPairs (λ one other. one.1 ≢ other.1) (imports_of run.mode)

-- what is read has the form of what it is: a request that of one, and a reply to a call fits it
pub record IsSpelling (spelling : Spelling) : Type 0 where
  pub requests : (body : List ℕ) (request : Request) → spelling.request_in body ≡ Some request → is_formed_request request ≡ true
  pub replies : (ticket : ℕ) (asked : Call) (body : List ℕ) (reply : Reply)
      → spelling.reply_in ticket asked body ≡ Some reply → reply_fits asked reply ≡ true
