-- The providers that operations are sent to are there: a recorded goal, or a row.
use Rattle.std.proofs.Common.{◌≡◌, ℕ, zero, suc, ◌+◌, ◌==◌, ◌<◌, ◌≤◌, Bool, true, false, not, ◌&&◌, List, [], ◌∷◌, length, reverse, take, slice_get, nat_lt, Option, Some, None, is_none, is_some, refl, sym, ◌∙◌, ap, subst, arith, option_map, option_and_then}
use Rattle.std.specs.List.{list_any}
use Rattle.std.proofs.lemmas.Option.{same_Some}
use Rattle.pl_lemmas.proofs.Truth.{and_left, and_right}
use Rattle.pl_lemmas.proofs.Numbers.{equal_numbers}
use Rattle.pl_lemmas.proofs.Each.{Each, each_always, each_append}
use Rattle.pl_reference.specs.declared.reference.ProviderRef.{ProviderRef}
use Rattle.pl_lemmas.specs.Words.{numbered, only_if, some_passes}
use Rattle.pl_lemmas.proofs.Options.{passing}
use Rattle.pl_state.specs.Chain.{last_from, last_provider, or_else_place, provider_row_of}
use Rattle.pl_state.specs.Kinds.{is_provider_goal}
use Rattle.pl_state.specs.References.{is_provider}
use Rattle.pl_state.specs.declared.entry.Entry.{Entry}
use Rattle.pl_state.specs.declared.goal.Goal.{Goal}
use Rattle.pl_state.specs.declared.pending.Pending.{Pending}
use Rattle.pl_events.specs.declared.event.Request.{Request}
use Rattle.pl_events.specs.declared.event.Request.TheVariants.{Register, Outputs, Invoke}
use Rattle.pl_events.specs.declared.operation.Op.{Op}
use Rattle.pl_events.specs.declared.operation.Op.TheVariants as op
use Rattle.pl_events.specs.declared.operation.Source.{Source}
use Rattle.pl_events.specs.declared.operation.Source.TheVariants as source
use Rattle.pl_events.specs.declared.operation.Subject.TheVariants as subject
use Rattle.pl_model.specs.Run.{rows_of}
use Rattle.pl_model.specs.Tickets.{is_coming, is_source, lane_free, lanes_from, same_op, was_begun}
use Rattle.pl_model.specs.Claims.{claimer_of}
use Rattle.pl_model.specs.Decisions.{Turn, checked_at, is_provider_unknown, needs_check, number_at, wants_diff}
use Rattle.pl_model.specs.declared.heard.Heard.{Heard}
use Rattle.pl_model.specs.declared.work.Work.TheVariants.{Send as to_send}
use Rattle.pl_model.specs.Due.{asks_check, asks_diff, checks_of, deletes_of, for_decided, goal_numbers, imports_read, invokes_of, is_asked, is_invoke, is_placed, is_unsent, is_wanted_op, op_of_goal, operations_of, passes_limit, pending_numbers, provider_recorded, reads_of, request_numbers, sends_goal, sends_of, source_of_op, wants_lane, way_is_free}
use Rattle.pl_model.specs.Known.{Known, asked_at, goal_at, is_recorded, next_turn}
use Rattle.pl_model.specs.Rows.{pending_at, row_numbers, source_by, source_of_goal, source_of_pending, source_of_provider, source_of_row}
use Rattle.pl_model_stays.proofs.Operations.Lanes.{each_any, source_is}
use Rattle.pl_model_stays.proofs.Goals.Subjects.{turn_goal}
use Rattle.pl_model_stays.proofs.Lists.Pairs.{each_map, each_flat}
use Rattle.pl_model_stays.proofs.Goals.Recorded.{found, placed_references}
use Rattle.pl_model_stays.proofs.Goals.Staying.{provider_recorded as provider_there}

-- ---- rows

last_below : (test : Entry → Bool) (place : ℕ) (rows : List Entry) (row : ℕ) → last_from test place rows ≡ Some row
    → row < place + length rows
last_below test place [] row h = absurd (let e : None ≡ Some row = h in cc)
last_below test place (entry ∷ rows) row h =
    by (last_from test (suc place) rows) (test entry) (last_below test (suc place) rows row) h
  where
    by : (o : Option ℕ) (b : Bool) → (o ≡ Some row → row < suc place + length rows) → or_else_place o b place ≡ Some row
        → row < place + length (entry ∷ rows)
    by (Some later) b rest h = let low : row < suc place + length rows = rest h in omega arith
    by None true rest h = let same : place ≡ row = same_Some place row h in omega arith
    by None false rest h = absurd (let e : None ≡ Some row = h in cc)

-- the row of a provider is one of the rows
provider_below : (reference : Option ProviderRef) (rows : List Entry) (row : ℕ) → last_provider reference rows ≡ Some row
    → row < length rows
provider_below None rows row h = absurd (let e : None ≡ Some row = h in cc)
provider_below (Some named) rows row h =
    let low : row < 0 + length rows = last_below (is_provider named) 0 rows row h in omega arith

take_short : {X : Type 0} (n : ℕ) (xs : List X) → length (take n xs) ≤ length xs
take_short zero xs = omega arith
take_short (suc n) [] = omega arith
take_short (suc n) (x ∷ xs) = let less : length (take n xs) ≤ length xs = take_short n xs in omega arith

provider_row_below : (rows : List Entry) (at row : ℕ) → provider_row_of rows at ≡ Some row → row < length rows
provider_row_below rows at row h = by (slice_get rows at) h
  where
    by : (o : Option Entry) → option_and_then (λ (entry : Entry). last_provider entry.provider (take at rows)) o ≡ Some row
        → row < length rows
    by None h = absurd (let e : None ≡ Some row = h in cc)
    by (Some entry) h =
        let low : row < length (take at rows) = provider_below entry.provider (take at rows) row h in
        let less : length (take at rows) ≤ length rows = take_short at rows in
        omega arith

-- ---- sources

-- a provider is there: its goal is recorded, or its row is one of the rows
abbrev pub IsSourceThere : Known → Source → Type 0
IsSourceThere known (source.Goal number) = is_recorded known number ≡ true
IsSourceThere known (source.Row row) = row < length (rows_of known.run)

-- whether an operation checks a provider's inputs
abbrev pub is_check_config : Op → Bool
is_check_config (op.CheckConfig about) = true
is_check_config _ = false

module _ (known : Known) where
  goal_source : (number : ℕ) (goal : Goal) (wanted : Source) → goal_at known number ≡ Some goal
      → ((m : ℕ) → goal.provider ≡ Some m → is_recorded known m ≡ true) → source_of_goal known number ≡ Some wanted
      → IsSourceThere known wanted
  goal_source number goal wanted stands recorded h =
      by goal.provider refl
      (sym (ap (λ (o : Option Goal). option_map source.Goal (option_and_then (λ one. one.provider) o)) stands) ∙ h)
    where
      by : (o : Option ℕ) → goal.provider ≡ o → option_map source.Goal o ≡ Some wanted → IsSourceThere known wanted
      by None is h = absurd (let e : None ≡ Some wanted = h in cc)
      by (Some m) is h =
          subst (λ (one : Source). IsSourceThere known one) (same_Some (source.Goal m) wanted h) (recorded m is)

  -- what a goal's turn asks of its recorded provider
  turn_source : (number : ℕ) (test : Turn → Bool) → ((turn : Turn) → test turn ≡ true → provider_recorded known turn ≡ true)
      → some_passes (λ turn. number_at turn == number && test turn) (next_turn known) ≡ true
      → (wanted : Source) → source_of_goal known number ≡ Some wanted → IsSourceThere known wanted
  turn_source number test recorded h wanted is =
      let turn = passing (λ turn. number_at turn == number && test turn) (next_turn known) h in
      let stands : goal_at known number ≡ Some turn.0.goal =
      subst (λ (n : ℕ). numbered known.goals n ≡ Some turn.0.goal) (equal_numbers (number_at turn.0) number (and_left _ (test turn.0) turn.2))
      (turn_goal known.run known.answers known.goals known.decided turn.0 turn.1) in
      let provider = passing (is_recorded known) turn.0.goal.provider
      (recorded turn.0 (and_right (number_at turn.0 == number) _ turn.2)) in
      goal_source number turn.0.goal wanted stands
      (λ m at. subst (λ (n : ℕ). is_recorded known n ≡ true) (same_Some provider.0 m (sym provider.1 ∙ at)) provider.2) is

  -- what a decided goal needs
  sends_source : (number : ℕ) (about : Op) → for_decided known number (sends_goal known number about) ≡ true
      → (wanted : Source) → source_of_goal known number ≡ Some wanted → IsSourceThere known wanted
  sends_source number about h wanted is =
      let it = found known number (sends_goal known number about) h in
      let placed : is_placed known number it.0 it.1 ≡ true =
      and_left _ (some_passes (same_op about) (op_of_goal known number it.0 it.1)) (and_left _ (way_is_free known it.1) it.4) in
      goal_source number it.0 wanted it.2
      (λ m at. provider_there known it.0 m (placed_references known number it.0 it.1 placed) at) is

  provider_source : (row : ℕ) → row < length (rows_of known.run) → IsSourceThere known (source_of_provider known row)
  provider_source row low = by (claimer_of known.decided row)
    where
      at : (goal : ℕ) (b : Bool) → is_recorded known goal ≡ b → IsSourceThere known (source_by row (only_if b (Some goal)))
      at goal true is = is
      at goal false is = low

      by : (o : Option ℕ)
          → IsSourceThere known (source_by row (option_and_then (λ goal. only_if (is_recorded known goal) (Some goal)) o))
      by None = low
      by (Some goal) = at goal (is_recorded known goal) refl

  -- what has the source of a provider's row
  named_source : (o : Option ℕ) → ((row : ℕ) → o ≡ Some row → row < length (rows_of known.run))
      → (wanted : Source) → option_map (source_of_provider known) o ≡ Some wanted → IsSourceThere known wanted
  named_source None low wanted h = absurd (let e : None ≡ Some wanted = h in cc)
  named_source (Some row) low wanted h =
      subst (λ (one : Source). IsSourceThere known one) (same_Some (source_of_provider known row) wanted h)
      (provider_source row (low row refl))

  row_source : (row : ℕ) (wanted : Source) → source_of_row known row ≡ Some wanted → IsSourceThere known wanted
  row_source row wanted h =
      named_source (provider_row_of (rows_of known.run) row) (λ other is. provider_row_below (rows_of known.run) row other is) wanted h

  pending_source : (at : ℕ) (wanted : Source) → source_of_pending known at ≡ Some wanted → IsSourceThere known wanted
  pending_source at wanted h =
      named_source (option_and_then (λ pending. last_provider pending.entry.provider (rows_of known.run)) (pending_at known at))
      (λ row is. by (pending_at known at) row is) wanted h
    where
      by : (o : Option Pending) (row : ℕ)
          → option_and_then (λ (pending : Pending). last_provider pending.entry.provider (rows_of known.run)) o ≡ Some row
          → row < length (rows_of known.run)
      by None row h = absurd (let e : None ≡ Some row = h in cc)
      by (Some pending) row h = provider_below pending.entry.provider (rows_of known.run) row h

  invoked : (request : Request) (about : Option ℕ) → is_invoke known request about ≡ true → some_passes (is_recorded known) about ≡ true
  invoked (Invoke n token args provider version) about h =
      and_left (some_passes (is_recorded known) about) (not (is_unsent known (Invoke n token args provider version) about)) h
  invoked (Register n told) about h = absurd (let e : false ≡ true = h in cc)
  invoked (Outputs n urn outputs) about h = absurd (let e : false ≡ true = h in cc)

  invoke_source : (n : ℕ) → some_passes (λ asked. is_invoke known asked.request asked.about) (asked_at known n) ≡ true
      → (wanted : Source) → option_map source.Goal (option_and_then (λ (asked : Heard). asked.about) (asked_at known n)) ≡ Some wanted
      → IsSourceThere known wanted
  invoke_source n h wanted is =
      let asked = passing (λ asked. is_invoke known asked.request asked.about) (asked_at known n) h in
      let about = passing (is_recorded known) asked.0.about (invoked asked.0.request asked.0.about asked.2) in
      let same : Some (source.Goal about.0) ≡ Some wanted =
      ap (λ (o : Option ℕ). option_map source.Goal o) (sym about.1)
      ∙ ap (λ (o : Option Heard). option_map source.Goal (option_and_then (λ (one : Heard). one.about) o)) (sym asked.1) ∙ is in
      subst (λ (one : Source). IsSourceThere known one) (same_Some (source.Goal about.0) wanted same) about.2

  -- the provider of an operation that is asked is there, unless its inputs are to be checked
  pub asked-source : (about : Op) (wanted : Source) → is_check_config about ≡ false → is_asked known about ≡ true
      → source_of_op known about ≡ Some wanted → IsSourceThere known wanted
  asked-source (op.CheckConfig about) wanted other h is = absurd (let e : true ≡ false = other in cc)
  asked-source (op.Configure provider) wanted other h is = absurd (let e : false ≡ true = h in cc)
  asked-source (op.Check (subject.Goal number)) wanted other h is =
      turn_source number (asks_check known) (λ turn asks. and_right (needs_check turn && not (is_provider_goal turn.goal)) _ asks) h wanted is
  asked-source (op.Check _) wanted other h is = absurd (let e : false ≡ true = h in cc)
  asked-source (op.Diff (subject.Goal number)) wanted other h is =
      turn_source number (asks_diff known)
      (λ turn asks. and_right (is_some (checked_at turn) && wants_diff turn && not (is_provider_unknown turn)) _ asks) h wanted is
  asked-source (op.Diff _) wanted other h is = absurd (let e : false ≡ true = h in cc)
  asked-source (op.Create (subject.Goal number)) wanted other h is = sends_source number (op.Create (subject.Goal number)) h wanted is
  asked-source (op.Create _) wanted other h is = absurd (let e : false ≡ true = h in cc)
  asked-source (op.Update (subject.Goal number)) wanted other h is = sends_source number (op.Update (subject.Goal number)) h wanted is
  asked-source (op.Update _) wanted other h is = absurd (let e : false ≡ true = h in cc)
  asked-source (op.Delete (subject.Row row)) wanted other h is = row_source row wanted is
  asked-source (op.Delete _) wanted other h is = absurd (let e : false ≡ true = h in cc)
  asked-source (op.Read (subject.Goal number)) wanted other h is = sends_source number (op.Read (subject.Goal number)) h wanted is
  asked-source (op.Read (subject.Row row)) wanted other h is = row_source row wanted is
  asked-source (op.Read (subject.Pending at)) wanted other h is = pending_source at wanted is
  asked-source (op.Invoke n) wanted other h is = invoke_source n h wanted is

  abbrev Ordinary : Op → Type 0
  Ordinary about = is_check_config about ≡ false

  -- no operation that is sent to a lane which is there checks a provider's inputs
  pub ordinary-each : Each Ordinary (operations_of known)
  ordinary-each =
      each_append Ordinary (deletes_of known) _
      (each_map (λ row. op.Delete (subject.Row row)) Ordinary (reverse (row_numbers known)) (each_always _ (λ row. refl) (reverse (row_numbers known))))
      (each_append Ordinary (checks_of known) _
      (each_flat (λ number. op.Check (subject.Goal number) ∷ op.Diff (subject.Goal number) ∷ []) Ordinary (goal_numbers known)
      (each_always _ (λ number. (refl, (refl, tt))) (goal_numbers known)))
      (each_append Ordinary (sends_of known) _
      (each_flat (λ number. op.Create (subject.Goal number) ∷ op.Update (subject.Goal number) ∷ op.Read (subject.Goal number) ∷ []) Ordinary
      (goal_numbers known) (each_always _ (λ number. (refl, (refl, (refl, tt)))) (goal_numbers known)))
      (each_append Ordinary (reads_of known) _
      (each_map (λ row. op.Read (subject.Row row)) Ordinary (reverse (row_numbers known)) (each_always _ (λ row. refl) (reverse (row_numbers known))))
      (each_append Ordinary (imports_read known) (invokes_of known)
      (each_map (λ at. op.Read (subject.Pending at)) Ordinary (pending_numbers known) (each_always _ (λ at. refl) (pending_numbers known)))
      (each_map op.Invoke Ordinary (request_numbers known) (each_always _ (λ n. refl) (request_numbers known)))))))

  -- a provider for which a lane is to be started is there
  pub wants-there : (wanted : Source) → wants_lane known wanted ≡ true → IsSourceThere known wanted
  wants-there wanted h =
      let some : list_any (λ about. is_source (source_of_op known about) wanted && is_wanted_op known about
      && not (passes_limit known (to_send about))) (operations_of known) ≡ true =
      and_left _ (is_none (lane_free known.history wanted))
      (and_left _ (not (list_any (is_coming known.history) (lanes_from known.history wanted)))
      (and_left _ (nat_lt (length (lanes_from known.history wanted)) known.run.parallel) h)) in
      let one = each_any Ordinary (λ about. is_source (source_of_op known about) wanted && is_wanted_op known about
      && not (passes_limit known (to_send about))) (operations_of known) ordinary-each some in
      let wants : (is_source (source_of_op known one.0) wanted && is_wanted_op known one.0) ≡ true =
      and_left _ (not (passes_limit known (to_send one.0))) one.2 in
      asked-source one.0 wanted one.1
      (and_right (not (was_begun known.history one.0)) (is_asked known one.0)
      (and_right (is_source (source_of_op known one.0) wanted) (is_wanted_op known one.0) wants))
      (source_is (source_of_op known one.0) wanted (and_left _ (is_wanted_op known one.0) wants))
