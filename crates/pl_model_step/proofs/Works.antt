-- What is read of a history for the work that is due.
use Rattle.std.proofs.Common.{◌≡◌, ℕ, ◌+◌, ◌==◌, not, ◌&&◌, ◌||◌, if◌then◌else◌, nat_lt, is_none, List, length, filter, refl, option_and_then, option_map}
use Rattle.std.specs.List.{list_any, range_with_len}
use Rattle.pl_lemmas.specs.Words.{some_passes}
use Rattle.pl_state.specs.Chain.{last_provider, provider_row_of}
use Rattle.pl_events.specs.declared.event.Event.{Event}
use Rattle.pl_events.specs.declared.operation.Op.{Op}
use Rattle.pl_events.specs.declared.operation.Op.TheVariants as op
use Rattle.pl_events.specs.declared.operation.Source.{Source}
use Rattle.pl_events.specs.declared.operation.Source.TheVariants as source
use Rattle.pl_events.specs.declared.operation.Subject.{Subject}
use Rattle.pl_events.specs.declared.operation.Subject.TheVariants as subject
use Rattle.pl_model.specs.Run.{rows_of}
use Rattle.pl_state.specs.Formed.{most_resources}
use Rattle.pl_model.specs.Tickets.{is_source, reply_to}
use Rattle.pl_decide.specs.Limited.{is_create_first}
use Rattle.pl_model.specs.Decisions.{checked_in}
use Rattle.pl_model.specs.declared.work.Work.{Work}
use Rattle.pl_model.specs.declared.work.Work.TheVariants.{Post as to_post, Keep as to_keep, Clear as to_clear, Drop as to_drop, Send as to_send}
use Rattle.pl_model.specs.Due.{added_by, claim_leaves, count_of, due_work, is_checked_lane, is_counted, is_due, is_due_on, is_lane_of, is_next_lane, is_over_limit, is_ready, is_ready_on, is_ready_op, is_wanted_op, may_configure, operations_of, over_limit, passes_limit, reads_goal, source_of_op, source_of_subject, wants_lane, works_of}
use Rattle.pl_model.specs.Known.{Known, decided_goal, has_problem}
use Rattle.pl_model.specs.Rows.{pending_at, source_by, source_of_pending, source_of_provider, source_of_row}
use Rattle.pl_model_step.proofs.Alike.{Alike, claimers, left, over}
use Rattle.pl_model_step.proofs.Lanes.{SameTickets, begun, coming, count, free, free_lane, lanes, lost, open_ones, out, sources}
use Rattle.pl_model_step.proofs.Whole.{AlikeWhole, entries_alike, pending_alike}
use Rattle.pl_model_step.proofs.Ready.{clear_ready, drop_ready, keep_ready, post_due, wanted}

module _ (known : Known) (history : List Event) (alike : AlikeWhole known.run known.history history) where
  abbrev core : Alike known.history history
  core = alike.most.core

  abbrev tickets : SameTickets known.history history
  tickets = alike.most.tickets

  abbrev other : Known
  other = over known history

  -- ---- the limit

  counting : count_of known ≡ count_of other
  counting = λ i.
      length (entries_alike known history alike i) + length (filter is_counted (pending_alike known history alike i))
      + length (filter (λ errand. reads_goal errand.op) (open_ones known.history history tickets i))

  leaving : claim_leaves known ≡ claim_leaves other
  leaving = λ i number.
      some_passes (λ one. some_passes (left known history core i) one.claim && not (is_create_first one.decision)) (decided_goal known number)

  adding : (work : Work) → added_by known work ≡ added_by other work
  adding (to_keep number) = λ i. if leaving i number then 0 else 1
  adding _ = refl

  pub passing : passes_limit known ≡ passes_limit other
  passing = λ i work. not (adding work i == 0) && nat_lt most_resources (counting i + adding work i)

  -- ---- lanes

  providers : source_of_provider known ≡ source_of_provider other
  providers = λ i row. source_by row (claimers known history core i row)

  row_sources : source_of_row known ≡ source_of_row other
  row_sources = λ i row. option_map (providers i) (provider_row_of (rows_of known.run) row)

  pending_sources : source_of_pending known ≡ source_of_pending other
  pending_sources = λ i at.
      option_map (providers i)
      (option_and_then (λ pending. last_provider pending.entry.provider (rows_of known.run)) (pending_at known at))

  of_subject : (about : Subject) → source_of_subject known about ≡ source_of_subject other about
  of_subject (subject.Goal number) = refl
  of_subject (subject.Row row) = λ i. row_sources i row
  of_subject (subject.Pending at) = λ i. pending_sources i at

  of_op : (about : Op) → source_of_op known about ≡ source_of_op other about
  of_op (op.CheckConfig (subject.Goal number)) = refl
  of_op (op.CheckConfig _) = refl
  of_op (op.Configure provider) = refl
  of_op (op.Check about) = of_subject about
  of_op (op.Diff about) = of_subject about
  of_op (op.Create about) = of_subject about
  of_op (op.Update about) = of_subject about
  of_op (op.Delete about) = of_subject about
  of_op (op.Read about) = of_subject about
  of_op (op.Invoke n) = refl

  of_lane : is_lane_of known ≡ is_lane_of other
  of_lane = λ i about lane.
      some_passes (λ one. is_source (sources known.history history tickets i lane) one) (of_op about i)
      && free known.history history tickets i lane

  next_lane : is_next_lane known ≡ is_next_lane other
  next_lane = λ i lane. lane == count known.history history tickets i

  wanting : wants_lane known ≡ wants_lane other
  wanting = λ i one.
      list_any (λ about. is_source (of_op about i) one && wanted known history alike.most i about && not (passing i (to_send about))) (operations_of known)
      && is_none (free_lane known.history history tickets i one)
      && not (list_any (coming known.history history tickets i) (lanes known.history history tickets i one))
      && nat_lt (length (lanes known.history history tickets i one)) known.run.parallel

  checked_lane : (provider : Source) (lane : ℕ) → is_checked_lane known provider lane ≡ is_checked_lane other provider lane
  checked_lane (source.Goal number) lane = λ i.
      some_passes (may_configure known) (checked_in (reply_to known.answers (op.CheckConfig (subject.Goal number))))
      && is_source (sources known.history history tickets i lane) (source.Goal number)
      && not (begun known.history history tickets i (op.Configure (source.Goal number)))
      && not (out known.history history tickets i lane) && not (lost known.history history tickets i lane)
  checked_lane (source.Row row) lane = refl

  sending : (about : Op) (lane : ℕ)
      → (not (has_problem known) && is_wanted_op known about && is_lane_of known about lane)
      ≡ (not (has_problem other) && is_wanted_op other about && is_lane_of other about lane)
  sending about lane = λ i. not (has_problem known) && wanted known history alike.most i about && of_lane i about lane

  ready_on : (about : Op) (lane : ℕ) → is_ready_on known about lane ≡ is_ready_on other about lane
  ready_on (op.CheckConfig about) lane =
      λ i. not (has_problem known) && wanted known history alike.most i (op.CheckConfig about) && next_lane i lane
  ready_on (op.Configure provider) lane =
      λ i. not (has_problem known) && (checked_lane provider lane i || (wanting i provider && next_lane i lane))
  ready_on (op.Check about) lane = sending (op.Check about) lane
  ready_on (op.Diff about) lane = sending (op.Diff about) lane
  ready_on (op.Create about) lane = sending (op.Create about) lane
  ready_on (op.Update about) lane = sending (op.Update about) lane
  ready_on (op.Delete about) lane = sending (op.Delete about) lane
  ready_on (op.Read about) lane = sending (op.Read about) lane
  ready_on (op.Invoke n) lane = sending (op.Invoke n) lane

  ready_op : is_ready_op known ≡ is_ready_op other
  ready_op = λ i about.
      list_any (λ lane. ready_on about lane i) (range_with_len 0 (count known.history history tickets i + 1))

  ready : (work : Work) → is_ready known work ≡ is_ready other work
  ready (to_post n) = λ i. post_due known history alike.most i n
  ready (to_keep number) = λ i. not (has_problem known) && keep_ready known history alike.most i number
  ready (to_clear at) = λ i. not (has_problem known) && clear_ready known history alike.most i at
  ready (to_drop row) = λ i. not (has_problem known) && drop_ready known history alike.most i row
  ready (to_send about) = λ i. ready_op i about

  pub due : is_due known ≡ is_due other
  due = λ i work. ready work i && not (passing i work)

  pub due_on : is_due_on known ≡ is_due_on other
  due_on = λ i about lane. ready_on about lane i && not (passing i (to_send about))

  pub due_works : due_work known ≡ due_work other
  due_works = λ i. filter (due i) (works_of known)

  pub passed : is_over_limit known ≡ is_over_limit other
  passed = λ i work. ready work i && passing i work

  pub over_works : over_limit known ≡ over_limit other
  over_works = λ i. filter (passed i) (works_of known)
