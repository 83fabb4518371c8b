-- What an event leaves as it was that need not be saved: what is recorded, taken out, told, read and pending.
use Rattle.std.proofs.Common.{◌≡◌, ℕ, ◌==◌, Bool, true, false, ◌&&◌, ◌||◌, List, [], ◌∷◌, ◌++◌, filter_map, reverse, Option, Some, None, refl, sym, ◌∙◌, ap, subst, option_map, option_and_then}
use Rattle.std.proofs.lemmas.List.{append-nil, reverse-append}
use Rattle.std.proofs.lemmas.List.Elements.{filter_map-append}
use Rattle.std.specs.List.{cons_option}
use Rattle.std.specs.Option.{option_or}
use Rattle.pl_lemmas.proofs.Truth.{neither_left}
use Rattle.pl_lemmas.proofs.Numbers.{equal_numbers}
use Rattle.pl_lemmas.specs.Words.{first_some, has_number, only_if, some_passes}
use Rattle.pl_state.specs.declared.entry.Entry.{Entry}
use Rattle.pl_state.specs.declared.pending.Pending.{Pending}
use Rattle.pl_events.specs.declared.event.Event.{Event}
use Rattle.pl_events.specs.declared.event.Request.{Request}
use Rattle.pl_events.specs.declared.event.Request.TheVariants.{Register, Outputs, Invoke}
use Rattle.pl_events.specs.declared.event.What.{What}
use Rattle.pl_events.specs.declared.event.What.TheVariants.{Told, Begun, Answered, Kept, Dropped, Cleared}
use Rattle.pl_events.specs.declared.operation.Op.{Op}
use Rattle.pl_events.specs.declared.operation.Op.TheVariants as op
use Rattle.pl_events.specs.declared.operation.Subject.TheVariants as subject
use Rattle.pl_events.specs.declared.reply.Reply.{Reply}
use Rattle.pl_events.specs.declared.reply.Reply.TheVariants as reply
use Rattle.pl_model.specs.declared.errand.Closed.{Closed}
use Rattle.pl_model.specs.declared.fixed.Fixed.{Fixed}
use Rattle.pl_model.specs.declared.heard.Fate.{Fate}
use Rattle.pl_model.specs.declared.heard.Fate.TheVariants.{Accepted as accepted, Halted as halted, Refused as refused}
use Rattle.pl_model.specs.declared.heard.Heard.{Heard}
use Rattle.pl_model.specs.Run.{Pairs}
use Rattle.pl_model.specs.Tickets.{answers_of, closed_by, reply_if, reply_to, same_op}
use Rattle.pl_model.specs.Recording.{cleared_in, cleared_of, is_gone, is_removed, is_thing, recorded_by, recorded_by_reply, recorded_of, removed_by, removed_by_reply, removed_of}
use Rattle.pl_model.specs.Claims.{goal_number}
use Rattle.pl_model.specs.Due.{is_recorded_about}
use Rattle.pl_model.specs.Entries.{told_by, told_outputs}
use Rattle.pl_model.specs.History.{asked_after, known_of}
use Rattle.pl_model.specs.Known.{Known, is_recorded}
use Rattle.pl_model.specs.Problems.{reads_row}
use Rattle.pl_model.specs.Requests.{asked_by, fate_of}
use Rattle.pl_model.specs.Rows.{pending_at}
use Rattle.pl_model.specs.Saves.{changes_state, closes_saved, is_accepted, is_covered, tells_saved}
use Rattle.pl_model.specs.State.{found_by, imported_by, imported_entries, is_cleared, is_found, opened_by, pending_for, row_read}
use Rattle.pl_model_stays.proofs.Lists.Growing.{run_of}
use Rattle.pl_model_stays.proofs.Operations.Once.{equal_ops, history_of}
use Rattle.pl_model_stays.proofs.Goals.Standing.{answers_as}

-- ---- a reply that need not be saved

-- nothing, under a test
abbrev no_number : Option ℕ
no_number = None

only_none : (b : Bool) → only_if b no_number ≡ None
only_none true = refl
only_none false = refl

module _ (said : Reply) where
  abbrev pub with_op : Op → Closed
  with_op about = record { op = about; reply = said }

  -- it records no goal
  reply_records : (about : Op) → closes_saved (with_op about) ≡ false → recorded_by_reply (with_op about) ≡ None
  reply_records (op.Create on) h = absurd (let e : true ≡ false = h in cc)
  reply_records (op.Update on) h = absurd (let e : true ≡ false = h in cc)
  reply_records (op.Delete on) h = absurd (let e : true ≡ false = h in cc)
  reply_records (op.Read on) h = rw (neither_left (is_thing said) (reads_row (op.Read on) && is_gone said) h) refl
  reply_records (op.CheckConfig on) h = only_none (is_thing said)
  reply_records (op.Configure provider) h = only_none (is_thing said)
  reply_records (op.Check on) h = only_none (is_thing said)
  reply_records (op.Diff on) h = only_none (is_thing said)
  reply_records (op.Invoke n) h = only_none (is_thing said)

  -- it takes out no row
  reply_removes : (about : Op) → closes_saved (with_op about) ≡ false → removed_by_reply (with_op about) ≡ None
  reply_removes (op.Create on) h = absurd (let e : true ≡ false = h in cc)
  reply_removes (op.Update on) h = absurd (let e : true ≡ false = h in cc)
  reply_removes (op.Delete on) h = absurd (let e : true ≡ false = h in cc)
  reply_removes (op.Read on) h = only_none (is_removed said)
  reply_removes (op.CheckConfig on) h = only_none (is_removed said)
  reply_removes (op.Configure provider) h = only_none (is_removed said)
  reply_removes (op.Check on) h = only_none (is_removed said)
  reply_removes (op.Diff on) h = only_none (is_removed said)
  reply_removes (op.Invoke n) h = only_none (is_removed said)

-- what finds nothing leaves an entry that was not read as it was
nothing_found : (entry : Entry) (said : Reply) → is_thing said ≡ false → found_by entry (Some said) ≡ None
nothing_found entry (reply.Found id inputs outputs) h = absurd (let e : true ≡ false = h in cc)
nothing_found entry _ h = refl

row_unread : (entry : Entry) (said : Reply) → is_thing said ≡ false → is_gone said ≡ false
    → row_read entry (Some said) ≡ row_read entry None
row_unread entry (reply.Found id inputs outputs) h none = absurd (let e : true ≡ false = h in cc)
row_unread entry reply.Gone h none = absurd (let e : true ≡ false = none in cc)
row_unread entry _ h none = refl

not_found : (said : Reply) → is_thing said ≡ false → is_found (Some said) ≡ false
not_found (reply.Found id inputs outputs) h = absurd (let e : true ≡ false = h in cc)
not_found _ h = refl

-- a choice that adds nothing that is seen
seen_same : {Y : Type 0} (seen : Option Reply → Y) (earlier : Option Reply) (b : Bool) (said : Reply)
    → (b ≡ true → seen (Some said) ≡ seen None) → seen (option_or earlier (reply_if b said)) ≡ seen earlier
seen_same seen (Some first) b said h = refl
seen_same seen None true said h = h refl
seen_same seen None false said h = refl

module _ (known : Known) where
  -- it imports nothing
  reply_imports : (about : Op) (said : Reply) → closes_saved (with_op said about) ≡ false → imported_by known (with_op said about) ≡ None
  reply_imports (op.Read (subject.Pending at)) said h = by (pending_at known at)
    where
      by : (o : Option Pending)
          → option_and_then (λ (pending : Pending). found_by pending.entry (Some said)) o ≡ None
      by None = refl
      by (Some pending) = nothing_found pending.entry said (neither_left (is_thing said) _ h)
  reply_imports (op.Read (subject.Goal number)) said h = refl
  reply_imports (op.Read (subject.Row row)) said h = refl
  reply_imports _ said h = refl

-- ---- an event that need not be saved

module _ (run : Fixed) (event : Event) (past : List Event)
    (unsaved : changes_state (known_of run past) event.what ≡ false) where
  abbrev before : Known
  before = known_of run past

  abbrev after : Known
  after = known_of run (event ∷ past)

  -- what it answers
  abbrev pub AnswersNone : What → Type 0
  AnswersNone what = some_passes closes_saved (closed_by past what) ≡ false

  pub answers_none : AnswersNone event.what
  answers_none = by event.what unsaved
    where
      by : (what : What) → changes_state before what ≡ false → AnswersNone what
      by (Answered ticket said) h =
          subst (λ (events : List Event). some_passes closes_saved (closed_by events (Answered ticket said)) ≡ false) (history_of run past) h
      by _ h = refl

  -- it records no goal, and takes out no row and no pending operation
  records_none : recorded_by past event.what ≡ None
  records_none = by event.what unsaved answers_none
    where
      of_reply : (o : Option Closed) → some_passes closes_saved o ≡ false → option_and_then recorded_by_reply o ≡ None
      of_reply None h = refl
      of_reply (Some closed) h = reply_records closed.reply closed.op h

      by : (what : What) → changes_state before what ≡ false → AnswersNone what → recorded_by past what ≡ None
      by (Kept goal fresh) h none = absurd (let e : true ≡ false = h in cc)
      by (Answered ticket said) h none = of_reply (closed_by past (Answered ticket said)) none
      by _ h none = refl

  removes_none : removed_by past event.what ≡ None
  removes_none = by event.what unsaved answers_none
    where
      of_reply : (o : Option Closed) → some_passes closes_saved o ≡ false → option_and_then removed_by_reply o ≡ None
      of_reply None h = refl
      of_reply (Some closed) h = reply_removes closed.reply closed.op h

      by : (what : What) → changes_state before what ≡ false → AnswersNone what → removed_by past what ≡ None
      by (Dropped row) h none = absurd (let e : true ≡ false = h in cc)
      by (Answered ticket said) h none = of_reply (closed_by past (Answered ticket said)) none
      by _ h none = refl

  clears_none : cleared_in event.what ≡ None
  clears_none = by event.what unsaved
    where
      by : (what : What) → changes_state before what ≡ false → cleared_in what ≡ None
      by (Cleared at) h = absurd (let e : true ≡ false = h in cc)
      by _ h = refl

  pub opens_none : opened_by before event.what ≡ None
  opens_none = by event.what unsaved
    where
      opens : (about : Op) → is_covered about ≡ false → pending_for before about ≡ None
      opens (op.Create on) h = absurd (let e : true ≡ false = h in cc)
      opens (op.Update on) h = absurd (let e : true ≡ false = h in cc)
      opens (op.Delete on) h = absurd (let e : true ≡ false = h in cc)
      opens _ h = refl

      by : (what : What) → changes_state before what ≡ false → opened_by before what ≡ None
      by (Begun ticket lane about) h =
          ap (λ (o : Option Pending). option_map (λ (pending : Pending). record { ticket = ticket; pending = pending }) o) (opens about h)
      by _ h = refl

  pub recorded-same : recorded_of after.history ≡ recorded_of past
  recorded-same =
      ap (λ (events : List Event). recorded_of events) (history_of run (event ∷ past))
      ∙ ap (λ (o : Option ℕ). cons_option o (recorded_of past)) records_none

  pub removed-same : removed_of after.history ≡ removed_of before.history
  removed-same =
      ap (λ (events : List Event). removed_of events) (history_of run (event ∷ past))
      ∙ ap (λ (o : Option ℕ). cons_option o (removed_of past)) removes_none
      ∙ ap (λ (events : List Event). removed_of events) (sym (history_of run past))

  pub cleared-same : cleared_of after.history ≡ cleared_of before.history
  cleared-same =
      ap (λ (events : List Event). cleared_of events) (history_of run (event ∷ past))
      ∙ ap (λ (o : Option ℕ). cons_option o (cleared_of past)) clears_none
      ∙ ap (λ (events : List Event). cleared_of events) (sym (history_of run past))

  -- ---- replies

  answers_before : before.answers ≡ answers_of past
  answers_before = answers_as run past ∙ ap (λ (events : List Event). answers_of events) (history_of run past)

  answers_after : after.answers ≡ cons_option (closed_by past event.what) (answers_of past)
  answers_after = answers_as run (event ∷ past) ∙ ap (λ (events : List Event). answers_of events) (history_of run (event ∷ past))

  -- what is seen of the reply to an operation is as it was, where a reply that need not be saved shows nothing
  seen : {Y : Type 0} (seen : Option Reply → Y) (about : Op)
      → ((said : Reply) → closes_saved (with_op said about) ≡ false → seen (Some said) ≡ seen None)
      → seen (reply_to after.answers about) ≡ seen (reply_to before.answers about)
  seen shows about none =
      ap (λ (closed : List Closed). shows (reply_to closed about)) answers_after
      ∙ by (closed_by past event.what) answers_none
      ∙ ap (λ (closed : List Closed). shows (reply_to closed about)) (sym answers_before)
    where
      by : (o : Option Closed) → some_passes closes_saved o ≡ false
          → shows (reply_to (cons_option o (answers_of past)) about) ≡ shows (reply_to (answers_of past) about)
      by None h = refl
      by (Some closed) h =
          seen_same shows (reply_to (answers_of past) about) (same_op closed.op about) closed.reply
          (λ same. none closed.reply
          (subst (λ (it : Op). closes_saved (with_op closed.reply it) ≡ false) (equal_ops closed.op about same) h))

  -- a row is as its readings left it
  pub row-read-same : (entry : Entry) (row : ℕ)
      → row_read entry (reply_to after.answers (op.Read (subject.Row row))) ≡ row_read entry (reply_to before.answers (op.Read (subject.Row row)))
  row-read-same entry row =
      seen (row_read entry) (op.Read (subject.Row row))
      (λ said h. row_unread entry said (neither_left (is_thing said) (is_gone said) h) (or_behind (is_thing said) (is_gone said) h))
    where
      or_behind : (a b : Bool) → (a || b) ≡ false → b ≡ false
      or_behind true b h = absurd (let e : true ≡ false = h in cc)
      or_behind false b h = h

  -- what was imported is as it was
  pub found-same : (at : ℕ)
      → is_found (reply_to after.answers (op.Read (subject.Pending at))) ≡ is_found (reply_to before.answers (op.Read (subject.Pending at)))
  found-same at =
      seen is_found (op.Read (subject.Pending at)) (λ said h. not_found said (neither_left (is_thing said) false h))

  pub cleared-row-same : (at : ℕ) → is_cleared after at ≡ is_cleared before at
  cleared-row-same at =
      ap (λ (numbers : List ℕ). has_number numbers at || is_found (reply_to after.answers (op.Read (subject.Pending at)))) cleared-same
      ∙ ap (λ (b : Bool). has_number (cleared_of before.history) at || b) (found-same at)

  pub imported-same : imported_entries after ≡ imported_entries before
  imported-same =
      ap (λ (fixed : Fixed). filter_map (imported_in fixed) (reverse after.answers)) (run_of run (event ∷ past) ∙ sym (run_of run past))
      ∙ ap (λ (closed : List Closed). filter_map (imported_by before) (reverse closed)) answers_after
      ∙ by (closed_by past event.what) answers_none
      ∙ ap (λ (closed : List Closed). filter_map (imported_by before) (reverse closed)) (sym answers_before)
    where
      imported_in : Fixed → Closed → Option Entry
      imported_in fixed closed = imported_by (record before { run = fixed }) closed

      by : (o : Option Closed) → some_passes closes_saved o ≡ false
          → filter_map (imported_by before) (reverse (cons_option o (answers_of past))) ≡ filter_map (imported_by before) (reverse (answers_of past))
      by None h = refl
      by (Some closed) h =
          ap (λ (all : List Closed). filter_map (imported_by before) all) (reverse-append (closed ∷ []) (answers_of past))
          ∙ filter_map-append (imported_by before) (reverse (answers_of past)) (closed ∷ [])
          ∙ ap (λ (o : Option Entry). filter_map (imported_by before) (reverse (answers_of past)) ++ cons_option o [])
          (reply_imports before closed.op closed.reply h)
          ∙ append-nil (filter_map (imported_by before) (reverse (answers_of past)))

  -- ---- told outputs

  asked_is : after.asked ≡ asked_after before event.what
  unfolding known_of
  asked_is = refl

  module _ (number : ℕ) (recorded : is_recorded before number ≡ true) where
    abbrev told_in : Heard → Option Pairs
    told_in asked = told_by number asked.request asked.about

    -- a request tells no outputs of a recorded goal
    tells_none : (request : Request) → tells_saved before request ≡ false → told_in (asked_by before request (fate_of before request)) ≡ None
    tells_none (Register n told) h = by (fate_of before (Register n told))
      where
        by : (fate : Fate) → told_in (asked_by before (Register n told) fate) ≡ None
        by accepted = refl
        by halted = refl
        by (refused problem) = refl
    tells_none (Invoke n token args provider version) h = by (fate_of before (Invoke n token args provider version))
      where
        by : (fate : Fate) → told_in (asked_by before (Invoke n token args provider version) fate) ≡ None
        by accepted = refl
        by halted = refl
        by (refused problem) = refl
    tells_none (Outputs n urn outputs) h = by (fate_of before (Outputs n urn outputs)) h
      where
        other : (o : Option ℕ) → is_recorded_about before o ≡ false → told_by number (Outputs n urn outputs) o ≡ None
        other None h = refl
        other (Some about) h = at (about == number) refl
          where
            at : (b : Bool) → (about == number) ≡ b → only_if b (Some outputs) ≡ None
            at false is = refl
            at true is =
                let none : is_recorded before number ≡ false =
                subst (λ (m : ℕ). is_recorded before m ≡ false) (equal_numbers about number is) h in
                absurd (let e : true ≡ false = sym recorded ∙ none in cc)

        by : (fate : Fate) → (is_accepted fate && is_recorded_about before (goal_number before.goals urn)) ≡ false
            → told_in (asked_by before (Outputs n urn outputs) fate) ≡ None
        by accepted h = other (goal_number before.goals urn) h
        by halted h = refl
        by (refused problem) h = refl

    pub told-same : told_outputs after number ≡ told_outputs before number
    told-same = ap (λ (all : List Heard). first_some told_in all) asked_is ∙ by event.what unsaved
      where
        by : (what : What) → changes_state before what ≡ false → first_some told_in (asked_after before what) ≡ first_some told_in before.asked
        by (Told request) h = ap (λ (o : Option Pairs). option_or o (first_some told_in before.asked)) (tells_none request h)
        by _ h = refl
