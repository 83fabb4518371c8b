-- What is due when a request was told, and how a run stands when it was worked on.
use Rattle.std.proofs.Common.{◌≡◌, ℕ, ◌<◌, Bool, true, false, ◌&&◌, not, is_none, is_some, List, [], ◌∷◌, ◌++◌, length, map, reverse, filter, Option, Some, None, option_map, refl, sym, ◌∙◌, ap, subst, inl, inr, arith, nat_lt, ◌==◌, append_assoc}
use Rattle.std.proofs.lemmas.Bool.Decides.{nat_tests}
use Rattle.std.proofs.lemmas.List.{length-map, length-reverse, map-append, reverse-append}
use Rattle.std.proofs.lemmas.List.Folds.{list_all-append}
use Rattle.std.specs.Str.{bytes_eq}
use Rattle.std.proofs.Math.Bool.{and-false, or-true}
use Rattle.pl_lemmas.proofs.Lists.{any_reversed, any_mapped}
use Rattle.pl_lemmas.proofs.Truth.{neither_right}
use Rattle.pl_lemmas.proofs.Numbers.{same_number}
use Rattle.pl_state.specs.Formed.{most_resources}
use Rattle.pl_state.specs.declared.goal.Goal.{Goal}
use Rattle.pl_state.specs.declared.goal.Registration.{Registration}
use Rattle.pl_state.specs.declared.entry.Entry.{Entry}
use Rattle.pl_events.specs.Closing.{has_host_end, has_stop}
use Rattle.pl_events.specs.declared.event.Event.{Event}
use Rattle.pl_events.specs.declared.event.Stop.{Stop}
use Rattle.pl_state.specs.Component.{is_plain}
use Rattle.pl_components.specs.Run.{Fixed}
use Rattle.pl_components.specs.Problems.{has_problem}
use Rattle.pl_components.specs.Requests.{Waiting, goal_at, goal_for, goals_of, has_goal, has_parent, is_acceptable, last_number, may_be_next, waiting_of}
use Rattle.pl_events.specs.declared.event.Request.TheVariants.{Register}
use Rattle.pl_urn.specs.Grammar.{child_fault}
use Rattle.pl_components.specs.Saves.{must_save}
use Rattle.pl_engine.proofs.Answering.{is_unposted}
use Rattle.pl_components.specs.Entries.{entry_if, entry_of, has_entry, new_entries, unrecorded_of}
use Rattle.pl_components.specs.Due.{NothingDue, is_post_due, is_ready, parent_stands, result_of}
use Rattle.pl_engine.specs.Journal.{Consistent, end_event, kept_event, posted_event, run_of, stop_event, told_event}
use Rattle.pl_events.specs.declared.event.Request.{Request}
use Rattle.pl_events.specs.declared.event.What.{What}
use Rattle.pl_events.specs.declared.event.What.TheVariants.{HostGone}
use Rattle.pl_events.specs.declared.event.HostEnd.{HostEnd}
use Rattle.pl_events.specs.declared.event.HostEnd.TheVariants.{BadFrame, NoMemory}
use Rattle.pl_model.specs.Problems.{problem_of_end}
use Rattle.pl_engine.specs.Judged.{is_placeable}
use Rattle.pl_engine.specs.Stored.{Adds}
use Rattle.pl_engine.specs.Answered.{Answers, Stops, urn_of}
use Rattle.pl_engine.specs.Running.{AllRecorded, AtRest, EndedBy, Goes, Over, RecordedAs, Registered, is_work}
use Rattle.pl_engine.specs.declared.journal.Journal.{Journal}
use Rattle.pl_engine.proofs.Resting.{NothingDue-told, entry_if-told, goal_at-told, goals-told, is_post_due-problem, is_post_due-recorded, is_ready-told, result-halted, result-recorded, result-stopped, unrecorded-told, waiting-told}
use Rattle.pl_engine.proofs.Storing.{run_same}

-- the entries of the goals have the goals' URNs
pub has_entry-goals : (goals : List Goal) (urn : List ℕ) → has_entry (map entry_of (reverse goals)) urn ≡ has_goal goals urn
has_entry-goals goals urn =
    any_mapped (λ (entry : Entry). bytes_eq entry.urn urn) entry_of (reverse goals)
    ∙ any_reversed (λ (goal : Goal). bytes_eq goal.urn urn) goals

stands-goals : (goals : List Goal) (parent : Option (List ℕ)) → parent_stands (map entry_of (reverse goals)) parent ≡ has_parent goals parent
stands-goals goals None = refl
stands-goals goals (Some urn) = has_entry-goals goals urn

-- where every goal is recorded, the entries judge a registration as the goals do
pub is_placeable-goals : (run : Fixed) (goals : List Goal) (told : Registration)
    → is_placeable run (map entry_of (reverse goals)) told ≡ is_acceptable run goals told
is_placeable-goals run goals told = rw (stands-goals goals told.parent, has_entry-goals goals (goal_for run told).urn) refl

-- a run without a problem in which every request was answered and every goal is recorded
pub record IsFree (run : Fixed) (past : List Event) : Type 0 where
  pub free : has_problem past ≡ false
  pub none : unrecorded_of run past ≡ []
  pub idle : waiting_of run past ≡ []
  pub order : new_entries run past ≡ map entry_of (reverse (goals_of run past))
  pub host : has_host_end past ≡ false

pub IsFree-rest : (run : Fixed) (journal : Journal) (failed : Bool) → AtRest run journal failed → journal.halted ≡ false → IsFree run journal.history
IsFree-rest run journal failed rest calm =
    let free : has_problem journal.history ≡ false = sym rest.consistent.halted ∙ calm in
    record {
      free = free;
      none = rest.recorded.recorded free;
      idle = rest.answered (unfailed failed refl);
      order = rest.recorded.in_order free;
      host = rest.host_open;
    }
  where
    unfailed : (b : Bool) → failed ≡ b → failed ≡ false
    unfailed false is = is
    unfailed true is = absurd (let e : true ≡ false = sym (rest.consistent.halting (rest.failing is)) ∙ calm in cc)

-- what holds of the run's data, a history and its entries holds of the journal's own
pub moved : (P : Fixed → List Event → List Entry → Type 0) (run : Fixed) (journal : Journal) (history : List Event)
    → Consistent run journal → journal.history ≡ history → P run history (new_entries run history)
    → P (run_of journal) journal.history journal.state.entries
moved P run journal history h is p =
    subst (λ (r : Fixed). P r journal.history journal.state.entries) (sym (run_same run journal h))
    (subst (λ (es : List Entry). P run journal.history es) (sym h.entries)
    (subst (λ (past : List Event). P run past (new_entries run past)) (sym is) p))

module _ (run : Fixed) (n : ℕ) (told : Registration) (past : List Event) where
  abbrev made : Goal
  made = goal_for run told

  abbrev number : ℕ
  number = length (goals_of run past)

  abbrev after : List Event
  after = told_event n told ∷ past

  count : IsFree run past → length (new_entries run past) ≡ number
  count f = ap (λ (es : List Entry). length es) f.order ∙ length-map (reverse (goals_of run past)) entry_of ∙ length-reverse (goals_of run past)

  pub ready-after : IsFree run past → parent_stands (new_entries run past) told.parent ≡ true
      → is_ready run after (length (new_entries run after)) ≡ true
  ready-after f parent = subst (λ (k : ℕ). is_ready run after k ≡ true) (sym (count f)) (is_ready-told run n told past f.free f.none parent)

  pub entry-after : IsFree run past → entry_if (goal_at (goals_of run after) (length (new_entries run after))) ≡ entry_of made ∷ []
  entry-after f = subst (λ (k : ℕ). entry_if (goal_at (goals_of run after) k) ≡ entry_of made ∷ []) (sym (count f)) (entry_if-told run n told past f.free)

  pub idle-after : IsFree run past → nat_lt (length (new_entries run past)) most_resources ≡ false → NothingDue run after
  idle-after f full = NothingDue-told run n told past f.free f.none f.idle full

  -- how a run stands when a request was told and worked on, and awaits its answer
  pub record IsAwaited (history : List Event) (result : Option (List ℕ)) : Type 0 where
    pub host : has_host_end history ≡ false
    pub waiting : (goal : Option ℕ) × (waiting_of run history ≡ record { number = n; made = goal } ∷ [])
    pub due : is_post_due run history n ≡ true
    pub answer : option_map urn_of (result_of run history n) ≡ result
    pub recorded : AllRecorded run history
    pub work : Adds is_work after history

  waits : IsFree run past → waiting_of run after ≡ record { number = n; made = Some number } ∷ []
  waits f = waiting-told run n told past f.free f.idle

  left : IsFree run past → unrecorded_of run (kept_event number ∷ after) ≡ []
  left f = ap (λ (ks : List ℕ). filter (λ k. not (k == number)) ks) (unrecorded-told run n told past f.free f.none) ∙ rw (same_number number) refl

  there : IsFree run past → goal_at (goals_of run after) number ≡ Some made
  there f = goal_at-told run n told past f.free

  order-kept : IsFree run past → new_entries run (kept_event number ∷ after) ≡ map entry_of (reverse (goals_of run (kept_event number ∷ after)))
  order-kept f =
      ap (λ (es : List Entry). new_entries run past ++ es) (entry_if-told run n told past f.free)
      ∙ ap (λ (es : List Entry). es ++ entry_of made ∷ []) f.order
      ∙ sym (map-append entry_of (reverse (goals_of run past)) (made ∷ []))
      ∙ ap (λ (gs : List Goal). map entry_of gs) (sym (reverse-append (made ∷ []) (goals_of run past)))
      ∙ ap (λ (gs : List Goal). map entry_of (reverse gs)) (sym (goals-told run n told past f.free))

  vacuous : (history : List Event) → has_problem history ≡ true → AllRecorded run history
  vacuous history problem = record {
    recorded = λ free. absurd (let e : true ≡ false = sym problem ∙ free in cc);
    in_order = λ free. absurd (let e : true ≡ false = sym problem ∙ free in cc);
  }

  -- the goal was recorded and saved
  pub IsAwaited-kept : IsFree run past → IsAwaited (kept_event number ∷ after) (Some made.urn)
  IsAwaited-kept f = record {
    host = f.host;
    waiting = (Some number, waits f);
    due = is_post_due-recorded run n number made (kept_event number ∷ after) (waits f) (left f) (there f);
    answer = ap (λ r. option_map urn_of r) (result-recorded run n number made (kept_event number ∷ after) (waits f) (left f) (there f));
    recorded = record { recorded = λ _. left f; in_order = λ _. order-kept f };
    work = (kept_event number ∷ [], refl, refl);
  }

  -- the goal was recorded and its save failed
  pub IsAwaited-unsaved : (stop : Stop) → IsFree run past → IsAwaited (stop_event stop ∷ kept_event number ∷ after) (Some made.urn)
  IsAwaited-unsaved stop f = record {
    host = f.host;
    waiting = (Some number, waits f);
    due = is_post_due-problem run n (Some number) (stop_event stop ∷ kept_event number ∷ after) (waits f) refl;
    answer = ap (λ r. option_map urn_of r) (result-recorded run n number made (stop_event stop ∷ kept_event number ∷ after) (waits f) (left f) (there f));
    recorded = vacuous (stop_event stop ∷ kept_event number ∷ after) refl;
    work = (stop_event stop ∷ kept_event number ∷ [], refl, refl);
  }

  -- the goal was not recorded
  pub IsAwaited-stopped : (stop : Stop) → IsFree run past → IsAwaited (stop_event stop ∷ after) None
  IsAwaited-stopped stop f = record {
    host = f.host;
    waiting = (Some number, waits f);
    due = is_post_due-problem run n (Some number) (stop_event stop ∷ after) (waits f) refl;
    answer = ap (λ r. option_map urn_of r) (result-stopped run n number (stop_event stop ∷ after) (waits f) (unrecorded-told run n told past f.free f.none));
    recorded = vacuous (stop_event stop ∷ after) refl;
    work = (stop_event stop ∷ [], refl, refl);
  }

  -- whatever became of the goal
  pub IsAwaited-recorded : (urn : List ℕ) (result : Option (List ℕ)) (history : List Event) → IsFree run past
      → urn ≡ made.urn → RecordedAs urn result (length (new_entries run after)) after history → IsAwaited history result
  IsAwaited-recorded urn (Some answer) history f same (is, inl kept) =
      subst (λ (r : Option (List ℕ)). IsAwaited history r) (ap (λ (u : List ℕ). Some u) (sym (is ∙ same)))
      (subst (λ (h : List Event). IsAwaited h (Some made.urn)) (sym (kept ∙ ap (λ (k : ℕ). kept_event k ∷ after) (count f))) (IsAwaited-kept f))
  IsAwaited-recorded urn (Some answer) history f same (is, inr (stop, kept)) =
      subst (λ (r : Option (List ℕ)). IsAwaited history r) (ap (λ (u : List ℕ). Some u) (sym (is ∙ same)))
      (subst (λ (h : List Event). IsAwaited h (Some made.urn)) (sym (kept ∙ ap (λ (k : ℕ). stop_event stop ∷ kept_event k ∷ after) (count f))) (IsAwaited-unsaved stop f))
  IsAwaited-recorded urn None history f same (stop, is) =
      subst (λ (h : List Event). IsAwaited h None) (sym is) (IsAwaited-stopped stop f)

  -- a request that a problem halts
  pub IsAwaited-halted : has_problem past ≡ true → waiting_of run past ≡ [] → has_host_end past ≡ false → IsAwaited after None
  IsAwaited-halted problem idle host =
      let waiting : waiting_of run after ≡ record { number = n; made = None } ∷ [] = rw (problem, idle) refl in
      record {
        host = host;
        waiting = (None, waiting);
        due = is_post_due-problem run n None after waiting problem;
        answer = ap (λ r. option_map urn_of r) (result-halted run n after waiting);
        recorded = vacuous after problem;
        work = ([], refl, refl);
      }

-- ---- after the post

Stops-host : (old new : List Event) → Stops old new → has_host_end old ≡ false → has_host_end new ≡ false
Stops-host old new (inl is) h = ap (λ (past : List Event). has_host_end past) is ∙ h
Stops-host old new (inr (stop, is)) h = ap (λ (past : List Event). has_host_end past) is ∙ h

Stops-waiting : (run : Fixed) (old new : List Event) → Stops old new → waiting_of run new ≡ waiting_of run old
Stops-waiting run old new (inl is) = ap (λ (past : List Event). waiting_of run past) is
Stops-waiting run old new (inr (stop, is)) = ap (λ (past : List Event). waiting_of run past) is

Stops-recorded : (run : Fixed) (old new : List Event) → Stops old new → AllRecorded run old → AllRecorded run new
Stops-recorded run old new (inl is) h = subst (λ (past : List Event). AllRecorded run past) (sym is) h
Stops-recorded run old new (inr (stop, is)) h = subst (λ (past : List Event). AllRecorded run past) (sym is)
    (record { recorded = λ free. absurd (let e : true ≡ false = free in cc); in_order = λ free. absurd (let e : true ≡ false = free in cc) })

Adds-more : (before old new : List Event) → Adds is_work before old → Stops old new → Adds is_work before new
Adds-more before old new adds (inl is) = (adds.0, is ∙ adds.1, adds.2)
Adds-more before old new adds (inr (stop, is)) = (stop_event stop ∷ adds.0, is ∙ ap (λ (past : List Event). stop_event stop ∷ past) adds.1, adds.2)

answered-posted : (run : Fixed) (n : ℕ) (goal : Option ℕ) (middle : List Event)
    → waiting_of run middle ≡ record { number = n; made = goal } ∷ [] → waiting_of run (posted_event n ∷ middle) ≡ []
answered-posted run n goal middle is =
    ap (λ (ws : List Waiting). filter (λ (w : Waiting). not (w.number == n)) ws) is ∙ rw (same_number n) refl

-- how a run stands when the awaited answer was given, or could not be
pub AtRest-answered : (run : Fixed) (n : ℕ) (told : Registration) (past history : List Event) (result : Option (List ℕ)) (journal : Journal) (failed : Bool)
    → IsAwaited run n told past history result → Answers n failed history journal.history
    → Consistent run journal → (failed ≡ true → journal.stopped ≡ true)
    → AtRest run journal failed × Adds is_work (told_event n told ∷ past) journal.history
AtRest-answered run n told past history result journal false awaited (middle, stops, gave) consistent failing =
    let host = Stops-host history middle stops awaited.host in
    let waiting : waiting_of run middle ≡ record { number = n; made = awaited.waiting.0 } ∷ [] = Stops-waiting run history middle stops ∙ awaited.waiting.1 in
    let recorded = Stops-recorded run history middle stops awaited.recorded in
    let work = Adds-more (told_event n told ∷ past) history middle awaited.work stops in (
      record {
        consistent = consistent;
        host_open = ap (λ (h : List Event). has_host_end h) gave ∙ host;
        answered = λ _. ap (λ (h : List Event). waiting_of run h) gave ∙ answered-posted run n awaited.waiting.0 middle waiting;
        recorded = subst (λ (h : List Event). AllRecorded run h) (sym gave) (record { recorded = recorded.recorded; in_order = recorded.in_order });
        failing = failing;
      },
      (posted_event n ∷ work.0, gave ∙ ap (λ (h : List Event). posted_event n ∷ h) work.1, work.2),
    )
AtRest-answered run n told past history result journal true awaited (middle, stops, gave) consistent failing =
    let host = Stops-host middle journal.history gave (Stops-host history middle stops awaited.host) in
    let recorded = Stops-recorded run middle journal.history gave (Stops-recorded run history middle stops awaited.recorded) in (
      record {
        consistent = consistent;
        host_open = host;
        answered = λ e. absurd (cc);
        recorded = recorded;
        failing = failing;
      },
      Adds-more (told_event n told ∷ past) middle journal.history (Adds-more (told_event n told ∷ past) history middle awaited.work stops) gave,
    )

-- a registration that the entries let stand is one that may come next
pub next-placeable : (run : Fixed) (n : ℕ) (told : Registration) (journal : Journal) (failed : Bool)
    → AtRest run journal failed → journal.halted ≡ false → journal.last < n
    → is_placeable run journal.state.entries told ≡ true → may_be_next run journal.history (Register n told) ≡ true
next-placeable run n told journal failed rest calm above placeable =
    let f = IsFree-rest run journal failed rest calm in
    let acceptable : is_acceptable run (goals_of run journal.history) told ≡ true =
    sym (is_placeable-goals run (goals_of run journal.history) told)
    ∙ ap (λ (es : List Entry). is_placeable run es told) (sym (rest.consistent.entries ∙ f.order)) ∙ placeable in
    let higher : nat_lt (last_number journal.history) n ≡ true = rw (sym rest.consistent.last) (grind (arith, nat_tests)) in
    rw (higher, acceptable) (or-true (has_problem journal.history))

-- one that they don't let stand is not
pub not_next-placeable : (run : Fixed) (n : ℕ) (told : Registration) (journal : Journal) (failed : Bool)
    → AtRest run journal failed → journal.halted ≡ false
    → is_placeable run journal.state.entries told ≡ false → may_be_next run journal.history (Register n told) ≡ false
not_next-placeable run n told journal failed rest calm refused =
    let f = IsFree-rest run journal failed rest calm in
    let refused' : is_acceptable run (goals_of run journal.history) told ≡ false =
    sym (is_placeable-goals run (goals_of run journal.history) told)
    ∙ ap (λ (es : List Entry). is_placeable run es told) (sym (rest.consistent.entries ∙ f.order)) ∙ refused in
    rw (refused', f.free) (and-false (nat_lt (last_number journal.history) n))

parent_of_and : (a b c : Bool) → (a && (b && c)) ≡ true → b ≡ true
parent_of_and true true c h = refl
parent_of_and true false c h = absurd (cc)
parent_of_and false b c h = absurd (cc)

pub parent_stands-placeable : (run : Fixed) (told : Registration) (journal : Journal) → Consistent run journal
    → is_placeable run journal.state.entries told ≡ true → parent_stands (new_entries run journal.history) told.parent ≡ true
parent_stands-placeable run told journal consistent placeable =
    subst (λ (es : List Entry). parent_stands es told.parent ≡ true) consistent.entries
    (parent_of_and (is_plain told && is_none (child_fault told.kind told.name)) (parent_stands journal.state.entries told.parent)
    (not (has_entry journal.state.entries (goal_for run told).urn)) placeable)

-- what work adds needs no save but for its keeps, and posts no answer but by its posts
pub Adds-answers : (n : ℕ) (failed : Bool) (old new : List Event) → Answers n failed old new → Adds (λ what. not (must_save what)) old new
Adds-answers n false old new (middle, stops, gave) = posted (Adds-stops' old middle stops)
  where
    Adds-stops' : (old new : List Event) → Stops old new → Adds (λ what. not (must_save what)) old new
    Adds-stops' old new (inl is) = ([], is, refl)
    Adds-stops' old new (inr (stop, is)) = (stop_event stop ∷ [], is, refl)

    posted : Adds (λ what. not (must_save what)) old middle → Adds (λ what. not (must_save what)) old new
    posted adds = (posted_event n ∷ adds.0, gave ∙ ap (λ (h : List Event). posted_event n ∷ h) adds.1, adds.2)
Adds-answers n true old new (middle, stops, gave) = more middle new (first old middle stops) gave
  where
    first : (old new : List Event) → Stops old new → Adds (λ what. not (must_save what)) old new
    first old new (inl is) = ([], is, refl)
    first old new (inr (stop, is)) = (stop_event stop ∷ [], is, refl)

    more : (middle new : List Event) → Adds (λ what. not (must_save what)) old middle → Stops middle new → Adds (λ what. not (must_save what)) old new
    more middle new adds (inl is) = (adds.0, is ∙ adds.1, adds.2)
    more middle new adds (inr (stop, is)) = (stop_event stop ∷ adds.0, is ∙ ap (λ (h : List Event). stop_event stop ∷ h) adds.1, adds.2)

pub Adds-recorded : (urn : List ℕ) (result : Option (List ℕ)) (goal : ℕ) (old new : List Event) → RecordedAs urn result goal old new → Adds is_unposted old new
Adds-recorded urn (Some answer) goal old new (is, inl kept) = (kept_event goal ∷ [], kept, refl)
Adds-recorded urn (Some answer) goal old new (is, inr (stop, kept)) = (stop_event stop ∷ kept_event goal ∷ [], kept, refl)
Adds-recorded urn None goal old new (stop, is) = (stop_event stop ∷ [], is, refl)

-- a request that was told and worked on was taken up
pub Registered-goes : (result : Bool) (n : ℕ) (told : Registration) (body : List ℕ) (run : Fixed) (old new : Journal) (failed : Bool)
    → Goes result n told run old new failed → Registered result (Register n told) body run old new failed
Registered-goes true n told body run old new failed h = h
Registered-goes false n told body run old new failed h = (h.0, inr (h.1, h.2))

-- the host's end adds one event
pub Adds-ended : (p : What → Bool) (end : HostEnd) (old new : List Event) (wanted : Bool) → ((e : HostEnd) → p (HostGone e) ≡ true)
    → EndedBy end old new wanted → Adds p old new
Adds-ended p end old new wanted all (inl (is, _)) = (end_event end ∷ [], is, ap (λ b. b && true) (all end))
Adds-ended p end old new wanted all (inr (is, _)) = (end_event NoMemory ∷ [], is, ap (λ b. b && true) (all NoMemory))

-- once the host has ended every request is answered as before
pub Over-ended : (run : Fixed) (old new : Journal) (failed : Bool) (end : HostEnd)
    → AtRest run old failed → Consistent run new → new.history ≡ end_event end ∷ old.history → Over run new failed
Over-ended run old new failed end rest consistent is = record {
  consistent = consistent;
  ended = ap (λ (h : List Event). has_host_end h) is;
  answered = λ unfailed. ap (λ (h : List Event). waiting_of run h) is ∙ rest.answered unfailed;
  recorded = subst (λ (h : List Event). AllRecorded run h) (sym is) (record {
    recorded = λ free. rest.recorded.recorded (neither_right (is_some (problem_of_end end)) (has_problem old.history) free);
    in_order = λ free. rest.recorded.in_order (neither_right (is_some (problem_of_end end)) (has_problem old.history) free);
  });
  failing = λ failing. consistent.stopped ∙ ap (λ (h : List Event). has_stop h) is ∙ sym rest.consistent.stopped ∙ rest.failing failing;
}

-- a request that may not come next is a bad frame
pub Registered-refused : (request : Request) (body : List ℕ) (run : Fixed) (old new : Journal) (failed : Bool)
    → AtRest run old failed → Consistent run new → EndedBy (BadFrame body) old.history new.history new.wanted
    → may_be_next run old.history request ≡ false → Registered false request body run old new failed
Registered-refused request body run old new failed rest consistent (inl (is, _)) refused =
    (Over-ended run old new failed (BadFrame body) rest consistent is, inl (is, refused))
Registered-refused request body run old new failed rest consistent (inr (is, want)) refused =
    (Over-ended run old new failed NoMemory rest consistent is, inr (is, want))

-- events after one that need not be saved need not be saved
pub Adds-after : (event : Event) (old middle new : List Event) → must_save event.what ≡ false → middle ≡ event ∷ old
    → Adds (λ what. not (must_save what)) middle new → Adds (λ what. not (must_save what)) old new
Adds-after event old middle new need is adds = (
  adds.0 ++ event ∷ [],
  adds.1 ∙ ap (λ (h : List Event). adds.0 ++ h) is ∙ sym (append_assoc adds.0 (event ∷ []) old),
  list_all-append (λ (e : Event). not (must_save e.what)) adds.0 (event ∷ []) ∙ rw (adds.2, need) refl,
)
