-- What is read of a history for the work that is to be done, lanes and the limit aside.
use Rattle.std.proofs.Common.{◌≡◌, ℕ, not, ◌&&◌, ◌||◌, is_some, is_none, List, Option, refl, option_map, slice_get, bytes_eq}
use Rattle.std.specs.List.{list_all, list_any}
use Rattle.pl_lemmas.specs.Words.{has_number, is_row, none_or, some_passes}
use Rattle.pl_state.specs.Chain.{refers_to}
use Rattle.pl_state.specs.Kinds.{is_provider_goal}
use Rattle.pl_state.specs.References.{further_urns}
use Rattle.pl_events.specs.declared.event.Event.{Event}
use Rattle.pl_events.specs.declared.event.Request.{Request}
use Rattle.pl_events.specs.declared.event.Request.TheVariants.{Register, Outputs, Invoke}
use Rattle.pl_events.specs.declared.operation.Op.{Op}
use Rattle.pl_events.specs.declared.operation.Op.TheVariants as op
use Rattle.pl_events.specs.declared.operation.Source.TheVariants as source
use Rattle.pl_events.specs.declared.operation.Subject.{Subject}
use Rattle.pl_events.specs.declared.operation.Subject.TheVariants as subject
use Rattle.pl_model.specs.Asked.{ask_delete, ask_of, ask_row}
use Rattle.pl_model.specs.Run.{is_preview, is_refresh, rows_of}
use Rattle.pl_model.specs.Tickets.{same_op}
use Rattle.pl_decide.specs.Limited.{is_delete_first, is_refused}
use Rattle.pl_model.specs.Claims.{chain_of_goal, goal_number}
use Rattle.pl_model.specs.Decisions.{checked_at, is_provider_unknown, needs_check, wants_diff}
use Rattle.pl_model.specs.Due.{asks_check, asks_diff, at_turn, for_decided, has_open, has_result, holds_urn, is_asked, is_clear_ready, is_delete_ready, is_drop_ready, is_invoke, is_keep_ready, is_placed, is_post_due, is_read_ready, is_recorded_about, is_recorded_urn, is_removable, is_settled, is_settled_fate, is_unsent, is_wanted_op, keeps_goal, on_goal, on_row, op_of_goal, provider_recorded, provider_stands, references_recorded, sends_goal, way_is_free}
use Rattle.pl_model.specs.declared.heard.Heard.{Heard}
use Rattle.pl_model.specs.declared.heard.Fate.{Fate}
use Rattle.pl_model.specs.declared.heard.Fate.TheVariants.{Halted as halted, Refused as refused, Accepted as accepted}
use Rattle.pl_model.specs.Known.{Known, asked_at, has_problem}
use Rattle.pl_model.specs.Rows.{has_dependents, pending_at, row_numbers}
use Rattle.pl_model_step.proofs.Alike.{Alike, doomed, left, marked, old, over, recorded, removed, sent}
use Rattle.pl_model_step.proofs.Lanes.{SameTickets, begun, open_ones, stands}
use Rattle.pl_model_step.proofs.Whole.{AlikeMost, cleared_alike}

module _ (known : Known) (history : List Event) (alike : AlikeMost known.history history) where
  abbrev core : Alike known.history history
  core = alike.core

  abbrev tickets : SameTickets known.history history
  tickets = alike.tickets

  abbrev other : Known
  other = over known history

  -- ---- goals

  urns : is_recorded_urn known ≡ is_recorded_urn other
  urns = λ i urn. some_passes (recorded known history core i) (goal_number known.goals urn)

  references : references_recorded known ≡ references_recorded other
  references = λ i goal.
      none_or (urns i) goal.parent && none_or (recorded known history core i) goal.provider
      && list_all (urns i) (further_urns goal)

  holds : holds_urn known ≡ holds_urn other
  holds = λ i goal one row.
      left known history core i row && not (marked known history core i row) && not (is_row one.claim row)
      && some_passes (λ entry. bytes_eq entry.urn goal.urn) (old known history core i row)

  placed : is_placed known ≡ is_placed other
  placed = λ i number goal one.
      not (is_refused one.decision) && not (recorded known history core i number) && references i goal
      && (is_preview known.run.mode || not (list_any (holds i goal one) (row_numbers known)))

  standing : provider_stands known ≡ provider_stands other
  standing = λ i number goal.
      not (is_provider_goal goal) || is_preview known.run.mode || stands known.history history tickets i (source.Goal number)

  keeps : keeps_goal known ≡ keeps_goal other
  keeps = λ i number goal one.
      placed i number goal one && is_none (op_of_goal known number goal one) && standing i number goal

  ways : way_is_free known ≡ way_is_free other
  ways = λ i one.
      not (is_delete_first one.decision)
      || (none_or (removed known history core i) one.claim
      && list_all (λ row. not (left known history core i row)) (chain_of_goal known.run one))

  sends : sends_goal known ≡ sends_goal other
  sends = λ i number about goal one.
      placed i number goal one && some_passes (same_op about) (op_of_goal known number goal one) && ways i one

  pub keep_ready : is_keep_ready known ≡ is_keep_ready other
  keep_ready = λ i number. for_decided known number (keeps i number)

  -- ---- rows and pending operations

  dependents : has_dependents known ≡ has_dependents other
  dependents = λ i row.
      list_any (λ later. refers_to (rows_of known.run) later row && left known history core i later) (row_numbers known)

  removable : is_removable known ≡ is_removable other
  removable = λ i row.
      doomed known history core i row && not (removed known history core i row) && not (dependents i row)
      && not (is_preview known.run.mode)

  pub drop_ready : is_drop_ready known ≡ is_drop_ready other
  drop_ready = λ i row. removable i row && not (sent known history core i row)

  pub delete_ready : is_delete_ready known ≡ is_delete_ready other
  delete_ready = λ i row. removable i row && sent known history core i row

  pub clear_ready : is_clear_ready known ≡ is_clear_ready other
  clear_ready = λ i at.
      is_refresh known.run.mode && not (cleared_alike known history alike i at)
      && some_passes (is_settled known at) (pending_at known at)

  -- ---- requests

  pub abouts : is_recorded_about known ≡ is_recorded_about other
  abouts = λ i about. some_passes (recorded known history core i) about

  results : (request : Request) (about : Option ℕ) → has_result known request about ≡ has_result other request about
  results (Register n told) about = λ i. abouts i about
  results (Outputs n urn outputs) about = λ i. abouts i about
  results (Invoke n token args provider version) about = refl

  settled : (asked : Heard) (fate : Fate) → is_settled_fate known asked fate ≡ is_settled_fate other asked fate
  settled asked halted = refl
  settled asked (refused problem) = refl
  settled asked accepted = results asked.request asked.about

  pub open_alike : has_open known ≡ has_open other
  open_alike = λ i. is_some (slice_get (open_ones known.history history tickets i) 0)

  pub post_due : is_post_due known ≡ is_post_due other
  post_due = λ i n.
      not (has_number (alike.posted i) n)
      && some_passes (λ asked. settled asked asked.fate i || (has_problem known && not (open_alike i))) (asked_at known n)

  invokes : (request : Request) (about : Option ℕ) → is_invoke known request about ≡ is_invoke other request about
  invokes (Invoke n token args provider version) about =
      λ i. abouts i about && not (is_unsent known (Invoke n token args provider version) about)
  invokes _ about = refl

  -- ---- operations

  provided : provider_recorded known ≡ provider_recorded other
  provided = λ i turn. some_passes (recorded known history core i) turn.goal.provider

  checking : asks_check known ≡ asks_check other
  checking = λ i turn. needs_check turn && not (is_provider_goal turn.goal) && provided i turn

  diffing : asks_diff known ≡ asks_diff other
  diffing = λ i turn.
      is_some (checked_at turn) && wants_diff turn && not (is_provider_unknown turn) && provided i turn

  on_goals : (about : Op) (one : Subject) → on_goal known about one ≡ on_goal other about one
  on_goals about (subject.Goal number) = λ i. for_decided known number (sends i number about)
  on_goals about _ = refl

  on_rows : (one : Subject) → on_row known (is_delete_ready known) one ≡ on_row other (is_delete_ready other) one
  on_rows one = λ i. on_row known (delete_ready i) one

  reads : (about : Op) (one : Subject) → is_read_ready known about one ≡ is_read_ready other about one
  reads about (subject.Goal number) = λ i. for_decided known number (sends i number about)
  reads about _ = refl

  asks : (about : Op) → is_asked known about ≡ is_asked other about
  asks (op.CheckConfig about) = refl
  asks (op.Configure provider) = refl
  asks (op.Check about) = λ i. at_turn known about (checking i)
  asks (op.Diff about) = λ i. at_turn known about (diffing i)
  asks (op.Create about) = on_goals (op.Create about) about
  asks (op.Update about) = on_goals (op.Update about) about
  asks (op.Delete about) = on_rows about
  asks (op.Read about) = reads (op.Read about) about
  asks (op.Invoke n) = λ i. some_passes (λ asked. invokes asked.request asked.about i) (asked_at known n)

  pub wanted : is_wanted_op known ≡ is_wanted_op other
  wanted = λ i about. not (begun known.history history tickets i about) && asks about i

  -- ---- what is asked

  asking_row : (about : Subject) → ask_row known about ≡ ask_row other about
  asking_row (subject.Row row) = λ i. option_map ask_delete (old known history core i row)
  asking_row _ = refl

  pub asking : (about : Op) → ask_of known about ≡ ask_of other about
  asking (op.Delete about) = asking_row about
  asking _ = refl
