-- The state of a component run.
use Rattle.std.proofs.Common.{◌≡◌, ℕ, ◌<◌, ◌==◌, Bool, true, false, not, if◌then◌else◌, List, [], ◌∷◌, ◌++◌, length, map, reverse, filter, filter_map, option_map, Option, Some, None, refl, sym, ◌∙◌, ap, arith, append-nil}
use Rattle.std.proofs.lemmas.Bool.Decides.{nat_tests}
use Rattle.std.proofs.lemmas.List.{reverse-append}
use Rattle.std.proofs.lemmas.List.Elements.{filter_map-append}
use Rattle.std.specs.List.{cons_option}
use Rattle.std.specs.Option.{option_or}
use Rattle.pl_state.specs.declared.entry.Entry.{Entry}
use Rattle.pl_state.specs.declared.goal.Goal.{Goal}
use Rattle.pl_events.specs.declared.event.Event.{Event}
use Rattle.pl_events.specs.declared.event.Request.{Request}
use Rattle.pl_events.specs.declared.event.Request.TheVariants.{Register, Outputs, Invoke}
use Rattle.pl_events.specs.declared.event.What.{What}
use Rattle.pl_events.specs.declared.event.What.TheVariants.{Told, HostGone, Begun, Answered, Lost, Kept, Dropped, Cleared, Posted, Stopped}
use Rattle.pl_model.specs.Run.{Pairs}
use Rattle.pl_lemmas.specs.Words.{first_some, has_number, only_if}
use Rattle.pl_model.specs.declared.errand.Opened.{Opened}
use Rattle.pl_model.specs.declared.heard.Heard.{Heard}
use Rattle.pl_model.specs.Known.{Known}
use Rattle.pl_model.specs.Entries.{recorded_entry, told_by, told_outputs, with_outputs}
use Rattle.pl_model.specs.Entries as entries
use Rattle.pl_model.specs.State.{opened_by, opened_of, own_pending, state_now, was_answered}
use Rattle.pl_model.specs.State as state
use Rattle.pl_model.specs.History.{known_of}
use Rattle.pl_model.specs.Run.{Spelling}
use Rattle.pl_components.specs.Run.{Fixed, state_with}
use Rattle.pl_components.specs.Problems.{has_problem}
use Rattle.pl_components.specs.Requests.{goal_at, goal_for, goals_of, made_by, may_stand}
use Rattle.pl_components.specs.Entries.{entry_if, entry_of, new_entries, state_of}
use Rattle.pl_components.specs.Legal.{IsLegal, MayHappen}
use Rattle.pl_components.specs.Whole.{IsComponentRun, whole}
use Rattle.pl_components.proofs.Lists.{Each, Each-reverse, Each-weaker, filter_map-same}
use Rattle.pl_components.proofs.Goals.{IsFit}
use Rattle.pl_components.proofs.Knowing.{asked_of, fit_goals, known_as, known_is, may_stand-next}
use Rattle.pl_components.proofs.Recorded.{IsCounted, IsCounted-legal, entry_known, has_each, kept_of, recorded_is}

-- ---- told outputs

-- a request that tells no outputs
abbrev pub TellsNone : Heard → Type 0
TellsNone asked = (g : ℕ) → told_by g asked.request asked.about ≡ None

tells_next : (run : Fixed) (spelling : Spelling) (past : List Event) (seat : ℕ) (what : What) → MayHappen run spelling past seat what
    → Each TellsNone (asked_of run past) → Each TellsNone (asked_of run (record { seat = 0; what = what } ∷ past))
tells_next run spelling past seat (Told request) may h = (by request (may_stand-next run past request may.next), h)
  where
    by : (one : Request) → may_stand run past one ≡ true → (g : ℕ) → told_by g one (made_by (has_problem past) (goals_of run past)) ≡ None
    by (Register n told) stands g = refl
    by (Outputs n urn outputs) stands g = absurd (let e : false ≡ true = stands in cc)
    by (Invoke n token args provider version) stands g = refl
tells_next run spelling past seat (HostGone end) may h = h
tells_next run spelling past seat (Begun ticket lane op) may h = h
tells_next run spelling past seat (Answered ticket reply) may h = h
tells_next run spelling past seat (Lost ticket why) may h = h
tells_next run spelling past seat (Kept goal fresh) may h = h
tells_next run spelling past seat (Dropped row) may h = h
tells_next run spelling past seat (Cleared at) may h = h
tells_next run spelling past seat (Posted n) may h = h
tells_next run spelling past seat (Stopped stop) may h = h

tells_none : (run : Fixed) (spelling : Spelling) (past : List Event) → IsLegal run spelling past → Each TellsNone (asked_of run past)
tells_none run spelling [] legal = tt
tells_none run spelling (event ∷ past) legal = tells_next run spelling past event.seat event.what legal.1 (tells_none run spelling past legal.0)

no_outputs : (g : ℕ) (asked : List Heard) → Each TellsNone asked
    → first_some (λ (one : Heard). told_by g one.request one.about) asked ≡ None
no_outputs g [] h = refl
no_outputs g (one ∷ earlier) h =
    ap (λ (first : Option Pairs). option_or first (first_some (λ (one : Heard). told_by g one.request one.about) earlier)) (h.0 g)
    ∙ no_outputs g earlier h.1

with_none : (entry : Option Entry) → option_map (with_outputs None) entry ≡ entry
with_none None = refl
with_none (Some entry) = refl

-- ---- entries

-- the entry of a goal, if there is one
abbrev pub row_of : List Goal → ℕ → Option Entry
row_of goals g = option_map entry_of (goal_at goals g)

-- the entries of the kept goals, in order of their keeps
abbrev pub rows_of : List Goal → List ℕ → List Entry
rows_of goals kept = filter_map (row_of goals) (reverse kept)

row_later : (goal : Goal) (goals : List Goal) (g : ℕ) → g < length goals → row_of goals g ≡ row_of (goal ∷ goals) g
row_later goal goals g below =
    let apart : (length goals == g) ≡ false = grind (arith, nat_tests) in
    sym (rw apart refl)

row_if : (found : Option Goal) → cons_option (option_map entry_of found) [] ≡ entry_if found
row_if None = refl
row_if (Some goal) = refl

rows_kept : (goals : List Goal) (kept : List ℕ) (g : ℕ) → rows_of goals (g ∷ kept) ≡ rows_of goals kept ++ entry_if (goal_at goals g)
rows_kept goals kept g =
    ap (λ (numbers : List ℕ). filter_map (row_of goals) numbers) (reverse-append (g ∷ []) kept)
    ∙ filter_map-append (row_of goals) (reverse kept) (g ∷ [])
    ∙ ap (λ (more : List Entry). rows_of goals kept ++ more) (row_if (goal_at goals g))

rows_told : (run : Fixed) (past : List Event) (request : Request) → may_stand run past request ≡ true → IsCounted run past
    → new_entries run past ≡ rows_of (goals_of run past) (kept_of past)
    → new_entries run past ≡ rows_of (goals_of run (record { seat = 0; what = Told request } ∷ past)) (kept_of past)
rows_told run past (Outputs n urn outputs) stands counted h = absurd (let e : false ≡ true = stands in cc)
rows_told run past (Invoke n token args provider version) stands counted h = absurd (let e : false ≡ true = stands in cc)
rows_told run past (Register n told) stands counted h = by (has_problem past)
  where
    by : (b : Bool) → new_entries run past ≡ rows_of (if b then goals_of run past else (goal_for run told ∷ goals_of run past)) (kept_of past)
    by true = h
    by false = h ∙ filter_map-same (row_of (goals_of run past)) (row_of (goal_for run told ∷ goals_of run past)) (reverse (kept_of past))
        (Each-reverse (λ g. row_of (goals_of run past) g ≡ row_of (goal_for run told ∷ goals_of run past) g) (kept_of past)
        (Each-weaker (λ g. g < length (goals_of run past)) (λ g. row_of (goals_of run past) g ≡ row_of (goal_for run told ∷ goals_of run past) g)
        (λ g below. row_later (goal_for run told) (goals_of run past) g below) (kept_of past) counted.within))

rows_next : (run : Fixed) (spelling : Spelling) (past : List Event) (seat : ℕ) (what : What) → MayHappen run spelling past seat what
    → IsCounted run past → new_entries run past ≡ rows_of (goals_of run past) (kept_of past)
    → new_entries run (record { seat = 0; what = what } ∷ past)
    ≡ rows_of (goals_of run (record { seat = 0; what = what } ∷ past)) (kept_of (record { seat = 0; what = what } ∷ past))
rows_next run spelling past seat (Told request) may counted h = rows_told run past request (may_stand-next run past request may.next) counted h
rows_next run spelling past seat (HostGone end) may counted h = h
rows_next run spelling past seat (Begun ticket lane op) may counted h = h
rows_next run spelling past seat (Answered ticket reply) may counted h = h
rows_next run spelling past seat (Lost ticket why) may counted h = h
rows_next run spelling past seat (Kept g fresh) may counted h =
    ap (λ (entries : List Entry). entries ++ entry_if (goal_at (goals_of run past) g)) h ∙ sym (rows_kept (goals_of run past) (kept_of past) g)
rows_next run spelling past seat (Dropped row) may counted h = h
rows_next run spelling past seat (Cleared at) may counted h = h
rows_next run spelling past seat (Posted n) may counted h = h
rows_next run spelling past seat (Stopped stop) may counted h = h

-- the recorded entries are those of the kept goals
pub entries_kept : (run : Fixed) (spelling : Spelling) (past : List Event) → IsLegal run spelling past
    → new_entries run past ≡ rows_of (goals_of run past) (kept_of past)
entries_kept run spelling [] legal = refl
entries_kept run spelling (event ∷ past) legal =
    rows_next run spelling past event.seat event.what legal.1 (IsCounted-legal run spelling past legal.0) (entries_kept run spelling past legal.0)

-- ---- pending operations

none_opened : (run : Fixed) (spelling : Spelling) (past : List Event) (before : Known) (seat : ℕ) (what : What) → MayHappen run spelling past seat what
    → opened_by before what ≡ None
none_opened run spelling past before seat (Told request) may = refl
none_opened run spelling past before seat (HostGone end) may = refl
none_opened run spelling past before seat (Begun ticket lane op) may = absurd may
none_opened run spelling past before seat (Answered ticket reply) may = refl
none_opened run spelling past before seat (Lost ticket why) may = refl
none_opened run spelling past before seat (Kept goal fresh) may = refl
none_opened run spelling past before seat (Dropped row) may = refl
none_opened run spelling past before seat (Cleared at) may = refl
none_opened run spelling past before seat (Posted n) may = refl
none_opened run spelling past before seat (Stopped stop) may = refl

no_opened : (run : Fixed) (parallel : ℕ) (spelling : Spelling) (past : List Event) → IsLegal run spelling past → opened_of (whole run parallel) past ≡ []
unfolding opened_of
no_opened run parallel spelling [] legal = refl
no_opened run parallel spelling (event ∷ past) legal =
    ap (λ (opened : Option Opened). cons_option opened (opened_of (whole run parallel) past))
    (none_opened run spelling past (known_of (whole run parallel) past) event.seat event.what legal.1)
    ∙ no_opened run parallel spelling past legal.0

pub no_pending : (run : Fixed) (parallel : ℕ) (spelling : Spelling) (past : List Event) → IsLegal run spelling past → own_pending (whole run parallel) past ≡ []
no_pending run parallel spelling past legal =
    ap (λ (opened : List Opened). map (λ (one : Opened). one.pending) (filter (λ (one : Opened). not (was_answered past one.ticket)) (reverse opened)))
    (no_opened run parallel spelling past legal)

-- ---- the state

module _ (run : Fixed) (parallel : ℕ) (spelling : Spelling) (past : List Event) (h : IsComponentRun run spelling past) where
  abbrev known : Known
  known = known_as run parallel past

  pub fit : Each IsFit (goals_of run past)
  fit = fit_goals run h.stack h.project spelling past h.legal

  pub recorded_row : (g : ℕ) → recorded_entry known g ≡ only_if (has_number (kept_of past) g) (row_of (goals_of run past) g)
  recorded_row g =
      ap (λ (outputs : Option Pairs). option_map (with_outputs outputs) (entries.entry_of known g)) (no_outputs g (asked_of run past) (tells_none run spelling past h.legal))
      ∙ with_none (entries.entry_of known g)
      ∙ entry_known run parallel past spelling h.legal fit g

  kept_row : (g : ℕ) → has_number (kept_of past) g ≡ true → recorded_entry known g ≡ row_of (goals_of run past) g
  kept_row g is = recorded_row g ∙ ap (λ b. only_if b (row_of (goals_of run past) g)) is

  pub entries_known : entries.new_entries known ≡ new_entries run past
  entries_known =
      ap (λ (numbers : List ℕ). filter_map (recorded_entry known) (reverse numbers)) (recorded_is run spelling past h.legal)
      ∙ filter_map-same (recorded_entry known) (row_of (goals_of run past)) (reverse (kept_of past))
      (Each-reverse (λ g. recorded_entry known g ≡ row_of (goals_of run past) g) (kept_of past)
      (Each-weaker (λ g. has_number (kept_of past) g ≡ true) (λ g. recorded_entry known g ≡ row_of (goals_of run past) g) kept_row (kept_of past) (has_each (kept_of past))))
      ∙ sym (entries_kept run spelling past h.legal)

  pub now_known : state.entries_now known ≡ new_entries run past
  now_known = append-nil (entries.new_entries known) ∙ entries_known

  pub pending_known : state.pending_of known ≡ []
  pending_known = no_pending run parallel spelling past h.legal

  pub state_known : state_now known ≡ state_of run past
  state_known = λ i. record (state_with run []) { entries = now_known i; pending = pending_known i }

pub states_agree : (run : Fixed) (parallel : ℕ) (spelling : Spelling) (history : List Event) → IsComponentRun run spelling history
    → state.state_of (whole run parallel) history ≡ state_of run history
states_agree run parallel spelling history h =
    ap (λ (known : Known). state_now known) (known_is run parallel spelling history h) ∙ state_known run parallel spelling history h
