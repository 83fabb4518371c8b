-- A component run is legal, quiet and fulfilled in the whole definitions too.
use Rattle.std.proofs.Common.{◌≡◌, ℕ, ◌<◌, ◌==◌, Bool, true, false, ◌&&◌, ◌||◌, if◌then◌else◌, Contains, List, [], ◌∷◌, length, map, reverse, option_map, Option, Some, None, is_none, is_some, refl, sym, ◌∙◌, ap, subst, inr, arith, bytes_eq, nat_lt}
use Rattle.std.proofs.lemmas.Bool.Decides.{nat_tests}
use Rattle.std.proofs.lemmas.List.{length-map, length-reverse}
use Rattle.std.proofs.lemmas.Slice.Eq.{bytes_eq-Decides}
use Rattle.pl_lemmas.specs.Words.{has_number, some_passes}
use Rattle.pl_state.specs.Kinds.{is_provider_goal}
use Rattle.pl_state.specs.declared.entry.Entry.{Entry}
use Rattle.pl_state.specs.declared.goal.Goal.{Goal}
use Rattle.pl_events.specs.declared.event.Answer.{Answer}
use Rattle.pl_events.specs.declared.event.Event.{Event}
use Rattle.pl_events.specs.declared.event.Request.{Request}
use Rattle.pl_events.specs.declared.event.Request.TheVariants.{Register, Outputs, Invoke}
use Rattle.pl_events.specs.declared.event.Stop.{Stop}
use Rattle.pl_events.specs.declared.event.Stop.TheVariants as stopped
use Rattle.pl_events.specs.declared.event.What.{What}
use Rattle.pl_events.specs.declared.event.What.TheVariants.{Told, HostGone, Begun, Answered, Lost, Kept, Dropped, Cleared, Posted, Stopped}
use Rattle.pl_model.specs.Recording.{recorded_of}
use Rattle.pl_model.specs.Claims.{goal_number, id_of_row, usable_id}
use Rattle.pl_model.specs.Known.{Known, asked_at, number_of}
use Rattle.pl_model.specs.Known as known_specs
use Rattle.pl_model.specs.Due as due
use Rattle.pl_model.specs.Entries as entries
use Rattle.pl_model.specs.Fulfilment as fulfilment
use Rattle.pl_model.specs.Fulfilment.{AllOnce}
use Rattle.pl_model.specs.History.{known_of}
use Rattle.pl_model.specs.Legal as legal_specs
use Rattle.pl_model.specs.Legal.{last_of}
use Rattle.pl_model.specs.Posts as posts
use Rattle.pl_model.specs.Run.{Spelling}
use Rattle.pl_components.specs.Run.{Fixed}
use Rattle.pl_components.specs.Requests.{goal_at, goals_of, has_goal, last_number, may_stand}
use Rattle.pl_components.specs.Entries.{entry_of, has_entry, state_of}
use Rattle.pl_components.specs.Due.{IsQuiet}
use Rattle.pl_components.specs.Fulfilment.{Fulfils}
use Rattle.pl_components.specs.Legal.{MayBeKept, MayBeTold, MayBeTooLong, MayHappen, StopFits}
use Rattle.pl_components.specs.Whole.{IsComponentRun, whole}
use Rattle.pl_components.proofs.Lists.{Contains-number, Each, Each-reverse, Each-weaker, and_left, length-filter_map, or_true}
use Rattle.pl_components.proofs.Goals.{IsFit}
use Rattle.pl_components.proofs.Knowing.{before_run, known_as, known_is, may_stand-next}
use Rattle.pl_components.proofs.Recorded.{IsCounted, IsCounted-legal, goal_at-below, goal_at-each, kept_of, numbered-goals, recorded_is}
use Rattle.pl_components.proofs.States.{entries_kept, entries_known, fit, row_of}
use Rattle.pl_components.proofs.Waits.{IsWaited-legal}
use Rattle.pl_components.proofs.Keeps.{AreApart-legal, any_reversed, entry_kept, names_number}
use Rattle.pl_components.proofs.Lines.{answer_same}
use Rattle.pl_components.proofs.Works.{closed, keep_due, nothing_due, nothing_over, post_known, some_over}

no_fresh : (found : Option Goal) (b : Bool) → ((goal : Goal) → found ≡ Some goal → is_provider_goal goal ≡ false)
    → false ≡ (some_passes is_provider_goal found && b)
no_fresh None b h = refl
no_fresh (Some goal) b h = sym (ap (λ c. c && b) (h goal refl))

module _ (run : Fixed) (parallel : ℕ) (spelling : Spelling) (past : List Event) (h : IsComponentRun run spelling past) where
  abbrev known : Known
  known = known_as run parallel past

  next_number : (request : Request) → may_stand run past request ≡ true → nat_lt (last_number past) (number_of request) ≡ true
      → legal_specs.may_be_next known request ≡ true
  next_number (Outputs n urn outputs) stands above = absurd (let e : false ≡ true = stands in cc)
  next_number (Invoke n token args provider version) stands above = absurd (let e : false ≡ true = stands in cc)
  next_number (Register n told) stands above =
      ap (λ (last : ℕ). nat_lt last n) ((IsWaited-legal run spelling past h.legal).last) ∙ above

  may_be_told : (seat : ℕ) (request : Request) → MayBeTold run spelling past seat request → legal_specs.MayBeTold known seat request
  may_be_told seat request may = record {
    registrar = may.registrar;
    host_open = may.host_open;
    formed = may.spelled.formed;
    next = next_number request (may_stand-next run past request may.next) (and_left (nat_lt (last_number past) (number_of request)) (may_stand run past request) may.next);
  }

  may_be_kept : (g : ℕ) (fresh : Option ℕ) → MayBeKept run past g fresh → legal_specs.MayBeKept known g fresh
  may_be_kept g fresh may = record {
    due = keep_due run parallel spelling past h g ∙ may.0;
    number_there = ap (λ (number : Option ℕ). is_some number) may.1 ∙ no_fresh (known_specs.goal_at known g) (is_none (usable_id (id_of_row (known_specs.claim_row known g))))
        (λ goal is. (goal_at-each IsFit (goals_of run past) (fit run parallel spelling past h) g goal (sym (numbered-goals (goals_of run past) g) ∙ is)).other);
  }

  too_long : MayBeTooLong run spelling past → legal_specs.MayBeTooLong spelling known
  too_long may = let (n, due, long) = may.some_post in
      inr (
        n,
        post_known run parallel spelling past h n ∙ due,
        ap (λ (answer : Answer). posts.is_too_long spelling n answer) (answer_same run parallel spelling past h n due) ∙ long,
      )

  stop_fits : (stop : Stop) → StopFits run spelling past stop → legal_specs.StopFits known stop
  stop_fits stopped.StoreFault may = tt
  stop_fits stopped.StartFault may = tt
  stop_fits stopped.HostPipeFault may = tt
  stop_fits stopped.TooManyResources may = record {
    nothing_due = nothing_due run parallel spelling past h may.nothing_due;
    closed = closed run parallel spelling past h;
    some_over = some_over run parallel spelling past h may.some_over.0 may.some_over.1;
  }
  stop_fits stopped.MessageTooLong may = tt
  stop_fits stopped.NoMemory may = tt

  may_happen : (seat : ℕ) (what : What) → MayHappen run spelling past seat what → legal_specs.MayHappen known seat what
  may_happen seat (Told request) may = may_be_told seat request may
  may_happen seat (HostGone end) may = record { registrar = may.registrar; host_open = may.host_open }
  may_happen seat (Begun ticket lane op) may = absurd may
  may_happen seat (Answered ticket reply) may = absurd may
  may_happen seat (Lost ticket why) may = absurd may
  may_happen seat (Kept g fresh) may = may_be_kept g fresh may
  may_happen seat (Dropped row) may = absurd may
  may_happen seat (Cleared at) may = absurd may
  may_happen seat (Posted n) may = post_known run parallel spelling past h n ∙ may
  may_happen seat (Stopped stop) may = record { first = may.first; fits = stop_fits stop may.fits }

  stop_spelled : (stop : Stop) → StopFits run spelling past stop → legal_specs.IsSpelled spelling known (Stopped stop)
  stop_spelled stopped.MessageTooLong may = too_long may
  stop_spelled _ may = tt

  is_spelled : (seat : ℕ) (what : What) → MayHappen run spelling past seat what → legal_specs.IsSpelled spelling known what
  is_spelled seat (Told request) may = may.spelled.form
  is_spelled seat (Answered ticket reply) may = absurd may
  is_spelled seat (Stopped stop) may = stop_spelled stop may.fits
  is_spelled seat _ may = tt

  quiet_known : IsQuiet run past → due.IsQuiet known
  quiet_known quiet = record {
    closed = closed run parallel spelling past h;
    nothing_due = nothing_due run parallel spelling past h quiet.nothing_due;
    nothing_over = nothing_over run parallel spelling past h quiet.nothing_over;
  }

orderly_too : (run : Fixed) (parallel : ℕ) (spelling : Spelling) (history : List Event) → IsComponentRun run spelling history
    → legal_specs.IsOrderly (whole run parallel) history
orderly_too run parallel spelling [] h = tt
orderly_too run parallel spelling (event ∷ past) h =
    let before : IsComponentRun run spelling past = before_run run spelling event past h in (
      orderly_too run parallel spelling past before,
      subst (λ (known : Known). legal_specs.MayHappen known event.seat event.what) (sym (known_is run parallel spelling past before))
          (may_happen run parallel spelling past before event.seat event.what h.legal.1),
    )

spelled_too : (run : Fixed) (parallel : ℕ) (spelling : Spelling) (history : List Event) → IsComponentRun run spelling history
    → legal_specs.AreSpelled (whole run parallel) spelling history
spelled_too run parallel spelling [] h = tt
spelled_too run parallel spelling (event ∷ past) h =
    let before : IsComponentRun run spelling past = before_run run spelling event past h in (
      spelled_too run parallel spelling past before,
      subst (λ (known : Known). legal_specs.IsSpelled spelling known event.what) (sym (known_is run parallel spelling past before))
          (is_spelled run parallel spelling past before event.seat event.what h.legal.1),
    )

pub legal_too : (run : Fixed) (parallel : ℕ) (spelling : Spelling) (history : List Event) → IsComponentRun run spelling history
    → legal_specs.IsLegal (whole run parallel) spelling history
legal_too run parallel spelling history h = record {
  orderly = orderly_too run parallel spelling history h;
  spelled = spelled_too run parallel spelling history h;
}

pub quiet_too : (run : Fixed) (parallel : ℕ) (spelling : Spelling) (history : List Event) → IsComponentRun run spelling history
    → IsQuiet run history → due.IsQuiet (known_of (whole run parallel) history)
quiet_too run parallel spelling history h quiet =
    subst (λ (known : Known). due.IsQuiet known) (sym (known_is run parallel spelling history h)) (quiet_known run parallel spelling history h quiet)

-- ---- fulfilment

any_mapped : (urn : List ℕ) (goals : List Goal) → has_entry (map entry_of goals) urn ≡ has_goal goals urn
any_mapped urn [] = refl
any_mapped urn (goal ∷ earlier) = ap (λ b. bytes_eq goal.urn urn || b) (any_mapped urn earlier)

has_goal-reversed : (urn : List ℕ) (goals : List Goal) → has_goal (reverse goals) urn ≡ has_goal goals urn
has_goal-reversed urn goals = any_reversed (λ (goal : Goal). bytes_eq goal.urn urn) goals

-- a goal of the list has its URN among theirs
has_own : (goals : List Goal) (g : ℕ) (goal : Goal) → goal_at goals g ≡ Some goal → has_goal goals goal.urn ≡ true
has_own [] g goal is = absurd cc
has_own (first ∷ earlier) g goal is = by (length earlier == g) (has_own earlier g goal) is
  where
    by : (b : Bool) → (goal_at earlier g ≡ Some goal → has_goal earlier goal.urn ≡ true) → (if b then Some first else goal_at earlier g) ≡ Some goal
        → (bytes_eq first.urn goal.urn || has_goal earlier goal.urn) ≡ true
    by true rest is =
        let same : first ≡ goal = cc in
        ap (λ b. b || has_goal earlier goal.urn) ((bytes_eq-Decides first.urn goal.urn).1 (ap (λ (one : Goal). one.urn) same))
    by false rest is = ap (λ b. bytes_eq first.urn goal.urn || b) (rest is) ∙ or_true (bytes_eq first.urn goal.urn)

module _ (run : Fixed) (parallel : ℕ) (spelling : Spelling) (history : List Event) (h : IsComponentRun run spelling history)
    (done : Fulfils run (state_of run history) history) where
  counted : IsCounted run history
  counted = IsCounted-legal run spelling history h.legal

  each_there : Each (λ g. is_some (row_of (goals_of run history) g) ≡ true) (kept_of history)
  each_there = Each-weaker (λ g. g < length (goals_of run history)) (λ g. is_some (row_of (goals_of run history) g) ≡ true)
      (λ g below. there (goal_at (goals_of run history) g) (goal_at-below (goals_of run history) g ∙ grind (arith, nat_tests))) (kept_of history) counted.within
    where
      there : (found : Option Goal) → is_some found ≡ true → is_some (option_map entry_of found) ≡ true
      there None is = absurd (let e : false ≡ true = is in cc)
      there (Some goal) is = refl

  -- as many are recorded as there are goals
  count : length (recorded_of history) ≡ length (goals_of run history)
  count =
      ap (λ (numbers : List ℕ). length numbers) (recorded_is run spelling history h.legal)
      ∙ sym (length-reverse (kept_of history))
      ∙ sym (length-filter_map (row_of (goals_of run history)) (reverse (kept_of history))
      (Each-reverse (λ g. is_some (row_of (goals_of run history) g) ≡ true) (kept_of history) each_there))
      ∙ ap (λ (rows : List Entry). length rows) (sym (entries_kept run spelling history h.legal) ∙ done)
      ∙ length-map (reverse (goals_of run history)) entry_of ∙ length-reverse (goals_of run history)

  -- the URN of each goal has its entry
  urn_kept : (urn : List ℕ) → has_goal (goals_of run history) urn ≡ true
      → some_passes (λ m. has_number (kept_of history) m) (goal_number (goals_of run history) urn) ≡ true
  urn_kept urn is =
      sym (entry_kept urn (goals_of run history) (kept_of history) (AreApart-legal run spelling history h.legal))
      ∙ ap (λ (rows : List Entry). has_entry rows urn) (sym (entries_kept run spelling history h.legal) ∙ done)
      ∙ any_mapped urn (reverse (goals_of run history)) ∙ has_goal-reversed urn (goals_of run history) ∙ is

  number_kept : (g : ℕ) (found : Option ℕ) → some_passes (λ m. m == g) found ≡ true → some_passes (λ m. has_number (kept_of history) m) found ≡ true
      → has_number (kept_of history) g ≡ true
  number_kept g None at is = absurd (let e : false ≡ true = at in cc)
  number_kept g (Some m) at is = let same : m ≡ g = grind (arith, nat_tests) in ap (λ (k : ℕ). has_number (kept_of history) k) (sym same) ∙ is

  goal_kept : (g : ℕ) (found : Option Goal) → goal_at (goals_of run history) g ≡ found → is_some found ≡ true → has_number (kept_of history) g ≡ true
  goal_kept g None is there = absurd (let e : false ≡ true = there in cc)
  goal_kept g (Some goal) is there =
      number_kept g (goal_number (goals_of run history) goal.urn)
      (sym (names_number goal.urn (goals_of run history) (AreApart-legal run spelling history h.legal) g)
      ∙ ap (λ (found : Option Goal). some_passes (λ (one : Goal). bytes_eq one.urn goal.urn) found) is ∙ (bytes_eq-Decides goal.urn goal.urn).1 refl)
      (urn_kept goal.urn (has_own (goals_of run history) g goal is))

  each_kept : (g : ℕ) → g < length (goals_of run history) → Contains (recorded_of history) g
  each_kept g below =
      let there : is_some (goal_at (goals_of run history) g) ≡ true = goal_at-below (goals_of run history) g ∙ grind (arith, nat_tests) in
      subst (λ (numbers : List ℕ). Contains numbers g) (sym (recorded_is run spelling history h.legal))
      (Contains-number (kept_of history) g (goal_kept g (goal_at (goals_of run history) g) refl there))

  once_known : AllOnce (known_as run parallel history)
  once_known = record { count = count; each = each_kept }

pub fulfils_too : (run : Fixed) (parallel : ℕ) (spelling : Spelling) (history : List Event) → IsComponentRun run spelling history
    → Fulfils run (state_of run history) history → fulfilment.Fulfils (whole run parallel) (state_of run history) history
fulfils_too run parallel spelling history h done = record {
  goals = subst (λ (known : Known). AllOnce known) (sym (known_is run parallel spelling history h)) (once_known run parallel spelling history h done);
  entries = sym (entries_known run parallel spelling history h) ∙ ap (λ (known : Known). entries.new_entries known) (sym (known_is run parallel spelling history h));
  pending = refl;
}
