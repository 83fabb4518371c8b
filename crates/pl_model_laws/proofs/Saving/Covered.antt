-- The state with an operation begun covers it.
use Rattle.std.proofs.Common.{◌≡◌, ℕ, true, false, not, ◌&&◌, List, [], ◌∷◌, ◌++◌, option_and_then, option_map, slice_get, Option, Some, None, refl, sym, ◌∙◌, ap, subst}
use Rattle.pl_lemmas.proofs.Truth.{and_left, and_right}
use Rattle.pl_lemmas.proofs.Options.{passing}
use Rattle.pl_sound.specs.Sound.{IsSound}
use Rattle.pl_state.specs.declared.entry.Entry.{Entry}
use Rattle.pl_state.specs.declared.goal.Goal.{Goal}
use Rattle.pl_state.specs.declared.pending.Pending.{Pending}
use Rattle.pl_state.specs.declared.pending.PendingKind.{PendingKind}
use Rattle.pl_state.specs.declared.pending.PendingKind.TheVariants.{Creating, Updating, Deleting}
use Rattle.pl_events.specs.declared.event.Event.{Event}
use Rattle.pl_events.specs.declared.event.What.{What}
use Rattle.pl_events.specs.declared.event.What.TheVariants.{Begun}
use Rattle.pl_events.specs.declared.operation.Op.{Op}
use Rattle.pl_events.specs.declared.operation.Op.TheVariants as op
use Rattle.pl_events.specs.declared.operation.Subject.TheVariants as subject
use Rattle.pl_model.specs.declared.decided.Decided.{Decided}
use Rattle.pl_model.specs.declared.fixed.Fixed.{Fixed}
use Rattle.pl_model.specs.declared.work.Work.TheVariants.{Send as to_send}
use Rattle.pl_model.specs.Run.{HasNames, is_preview, is_refresh, rows_of}
use Rattle.pl_model.specs.Covers.{Covers, CoversKind}
use Rattle.pl_model.specs.Due.{is_asked, is_delete_ready, is_due_on, is_lane_of, is_ready_on, is_removable, is_wanted_op, passes_limit}
use Rattle.pl_model.specs.Entries.{goal_entry, new_entries, old_entries, result_with, row_now}
use Rattle.pl_model.specs.History.{known_of}
use Rattle.pl_model.specs.Known.{Known, decided_goal, has_problem}
use Rattle.pl_model.specs.Legal.{IsOrderly, MayHappen}
use Rattle.pl_model.specs.Rows.{goes_with, is_deletable, is_sent, row_at}
use Rattle.pl_model.specs.Saves.{is_covered}
use Rattle.pl_model.specs.State.{pending_for, pending_with, state_of, updating_result}
use Rattle.pl_model.specs.RunData.{NameProviders}
use Rattle.pl_model_stays.proofs.Lists.Growing.{run_of}
use Rattle.pl_model_stays.proofs.Goals.Recorded.{asked_on, due_sent}
use Rattle.pl_model_laws.proofs.Saving.Beginning.{begun-entries, begun-pending}
use Rattle.pl_model_laws.proofs.Saving.Covering.{deletion-found, references-found, row-found}
use Rattle.pl_model_laws.proofs.Urns.Keeping.{entries_merged}
use Rattle.pl_model_laws.proofs.References.Sounding.{sound-apart}

abbrev pending_of_kind : PendingKind → Entry → Pending
pending_of_kind kind entry = record { kind = kind; entry = entry }

module _ (run : Fixed) (event : Event) (past : List Event) (ticket lane : ℕ)
    (names : HasNames run) (real : is_preview run.mode ≡ false) (other : is_refresh run.mode ≡ false)
    (sound : IsSound (rows_of run)) (named : NameProviders (rows_of run)) (orderly : IsOrderly run (event ∷ past)) where
  abbrev before : Known
  before = known_of run past

  abbrev merged : List Entry
  merged = new_entries (known_of run past) ++ old_entries (known_of run past)

  due_of : (about : Op) → event.what ≡ Begun ticket lane about → is_due_on before about lane ≡ true
  due_of about says = (subst (λ (what : What). MayHappen before event.seat what) says orderly.1).due

  entries_are : (about : Op) → event.what ≡ Begun ticket lane about → (state_of run (event ∷ past)).entries ≡ merged
  entries_are about says =
      begun-entries run event past ticket lane about says other
      ∙ entries_merged run past names real (sound-apart (rows_of run) sound) orderly.0 other

  covers : (about : Op) (kind : PendingKind) (entry : Entry) → event.what ≡ Begun ticket lane about
      → pending_for before about ≡ Some (pending_of_kind kind entry) → CoversKind kind merged entry
      → Covers run past about (state_of run (event ∷ past))
  covers about kind entry says opens has = (
    pending_of_kind kind entry,
    opens,
    record {
      stands = begun-pending run event past ticket lane about (pending_of_kind kind entry) orderly says opens;
      kind = subst (λ (entries : List Entry). CoversKind kind entries entry) (sym (entries_are about says)) has;
    },
  )

  made_covered : (number : ℕ) → event.what ≡ Begun ticket lane (op.Create (subject.Goal number))
      → Covers run past (op.Create (subject.Goal number)) (state_of run (event ∷ past))
  made_covered number says =
      let (goal, one, placed, need) = (due_sent before number (op.Create (subject.Goal number)) lane refl (due_of (op.Create (subject.Goal number)) says)).0 in
      let entry : Entry = goal_entry before goal one (result_with None [] []) in
      covers (op.Create (subject.Goal number)) Creating entry says
      (ap (λ (o : Option Goal). pending_with Creating (option_and_then (λ (it : Goal). option_map (λ (own : Decided). goal_entry before it own (result_with None [] []))
      (decided_goal before number)) o)) placed.stands
      ∙ ap (λ (o : Option Decided). pending_with Creating (option_map (λ (own : Decided). goal_entry before goal own (result_with None [] [])) o)) placed.decided)
      (references-found run past names orderly.0 number goal entry placed.stands placed.references refl refl refl)

  changed_covered : (number : ℕ) → event.what ≡ Begun ticket lane (op.Update (subject.Goal number))
      → Covers run past (op.Update (subject.Goal number)) (state_of run (event ∷ past))
  changed_covered number says =
      let (goal, one, placed, need) = (due_sent before number (op.Update (subject.Goal number)) lane refl (due_of (op.Update (subject.Goal number)) says)).0 in
      let entry : Entry = updating_result before goal one in
      covers (op.Update (subject.Goal number)) Updating entry says
      (ap (λ (o : Option Goal). pending_with Updating (option_and_then (λ (it : Goal). option_map (updating_result before it) (decided_goal before number)) o)) placed.stands
      ∙ ap (λ (o : Option Decided). pending_with Updating (option_map (updating_result before goal) o)) placed.decided)
      (references-found run past names orderly.0 number goal entry placed.stands placed.references refl refl refl)

  deleted_covered : (place : ℕ) → event.what ≡ Begun ticket lane (op.Delete (subject.Row place))
      → Covers run past (op.Delete (subject.Row place)) (state_of run (event ∷ past))
  deleted_covered place says =
      let about : Op = op.Delete (subject.Row place) in
      let ready : is_delete_ready before place ≡ true =
      asked_on before 0 about lane (and_left (is_ready_on before about lane) (not (passes_limit before (to_send about))) (due_of about says)) in
      let row = passing (λ entry. is_deletable entry && not entry.pending_replacement) (row_at before place)
      (and_left _ (not (goes_with before place)) (and_right (is_removable before place) (is_sent before place) ready)) in
      let here : slice_get (rows_of run) place ≡ Some row.0 =
      ap (λ (fixed : Fixed). slice_get (rows_of fixed) place) (sym (run_of run past)) ∙ row.1 in
      covers about Deleting (row_now before place row.0) says
      (ap (λ (o : Option Entry). pending_with Deleting o) (row-found run past names real sound named orderly.0 place row.0 here ready))
      (deletion-found run past names real sound named orderly.0 place row.0 here ready)

  -- what is asked of nothing that it could be about is never due
  never : (about : Op) → event.what ≡ Begun ticket lane about → is_asked before about ≡ false
      → ((not (has_problem before) && is_wanted_op before about && is_lane_of before about lane) ≡ is_ready_on before about lane)
      → Covers run past about (state_of run (event ∷ past))
  never about says unasked same =
      let ready : is_ready_on before about lane ≡ true = and_left (is_ready_on before about lane) (not (passes_limit before (to_send about))) (due_of about says) in
      let asked : is_asked before about ≡ true = asked_on before 0 about lane (same ∙ ready) in
      absurd (let e : false ≡ true = sym unasked ∙ asked in cc)

  -- nothing else that changes a thing is due
  pub begun-covered : (about : Op) → event.what ≡ Begun ticket lane about → is_covered about ≡ true → Covers run past about (state_of run (event ∷ past))
  begun-covered (op.Create (subject.Goal number)) says covered = made_covered number says
  begun-covered (op.Update (subject.Goal number)) says covered = changed_covered number says
  begun-covered (op.Delete (subject.Row place)) says covered = deleted_covered place says
  begun-covered (op.Create (subject.Row row)) says covered = never (op.Create (subject.Row row)) says refl refl
  begun-covered (op.Create (subject.Pending at)) says covered = never (op.Create (subject.Pending at)) says refl refl
  begun-covered (op.Update (subject.Row row)) says covered = never (op.Update (subject.Row row)) says refl refl
  begun-covered (op.Update (subject.Pending at)) says covered = never (op.Update (subject.Pending at)) says refl refl
  begun-covered (op.Delete (subject.Goal number)) says covered = never (op.Delete (subject.Goal number)) says refl refl
  begun-covered (op.Delete (subject.Pending at)) says covered = never (op.Delete (subject.Pending at)) says refl refl
  begun-covered (op.CheckConfig about) says covered = absurd (let e : false ≡ true = covered in cc)
  begun-covered (op.Configure provider) says covered = absurd (let e : false ≡ true = covered in cc)
  begun-covered (op.Check about) says covered = absurd (let e : false ≡ true = covered in cc)
  begun-covered (op.Diff about) says covered = absurd (let e : false ≡ true = covered in cc)
  begun-covered (op.Read about) says covered = absurd (let e : false ≡ true = covered in cc)
  begun-covered (op.Invoke n) says covered = absurd (let e : false ≡ true = covered in cc)
