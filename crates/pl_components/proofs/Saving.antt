-- The saves of a component run, and that its requests are answered.
use Rattle.std.proofs.Common.{◌≡◌, ◌⊎◌, ℕ, zero, suc, ◌+◌, ◌-◌, ◌==◌, Bool, true, false, not, ◌&&◌, if◌then◌else◌, Contains, List, [], ◌∷◌, ◌++◌, drop, length, map, Option, Some, None, is_some, refl, sym, ◌∙◌, ap, subst, inl, inr}
use Rattle.pl_state.specs.declared.snapshot.Snapshot.{Snapshot}
use Rattle.pl_events.specs.declared.event.Event.{Event}
use Rattle.pl_events.specs.declared.event.Request.{Request}
use Rattle.pl_events.specs.declared.event.Request.TheVariants.{Register, Outputs, Invoke}
use Rattle.pl_events.specs.declared.event.What.{What}
use Rattle.pl_events.specs.declared.event.What.TheVariants.{Told, HostGone, Begun, Answered, Lost, Kept, Dropped, Cleared, Posted, Stopped}
use Rattle.pl_model.specs.Known.{Known, asked_at}
use Rattle.pl_lemmas.specs.Words.{has_number}
use Rattle.pl_model.specs.Recording.{posted_of}
use Rattle.pl_model.specs.History.{known_of}
use Rattle.pl_model.specs.Saves as saves
use Rattle.pl_model.specs.State as state
use Rattle.pl_model.specs.Run.{Spelling}
use Rattle.pl_components.specs.Run.{Fixed}
use Rattle.pl_components.specs.Requests.{is_waiting, may_stand, waiting_of, Waiting}
use Rattle.pl_components.specs.Entries.{state_of}
use Rattle.pl_components.specs.Legal.{MayHappen}
use Rattle.pl_components.specs.Saves.{AllMarked, IsSaved, IsStory, LacksForFault, LacksForMemory, is_after_save, must_save, prefix_of, saves_of}
use Rattle.pl_model.specs.Posts.{AllAnswered}
use Rattle.pl_components.specs.Whole.{IsComponentRun, whole}
use Rattle.pl_components.proofs.Knowing.{before_run, known_as, known_is, may_stand-next}
use Rattle.pl_components.proofs.Lines.{earlier_run}
use Rattle.pl_components.proofs.States.{states_agree}
use Rattle.pl_components.proofs.Waits.{IsWaited-legal}

-- ---- what must be saved

save_told : (run : Fixed) (parallel : ℕ) (past : List Event) (request : Request) → may_stand run past request ≡ true
    → saves.must_save (known_as run parallel past) (Told request) ≡ false
save_told run parallel past (Register n told) stands = refl
save_told run parallel past (Outputs n urn outputs) stands = absurd (let e : false ≡ true = stands in cc)
save_told run parallel past (Invoke n token args provider version) stands = refl

save_as : (run : Fixed) (parallel : ℕ) (spelling : Spelling) (past : List Event) (seat : ℕ) (what : What) → MayHappen run spelling past seat what
    → saves.must_save (known_as run parallel past) what ≡ must_save what
save_as run parallel spelling past seat (Told request) may = save_told run parallel past request (may_stand-next run past request may.next)
save_as run parallel spelling past seat (HostGone end) may = refl
save_as run parallel spelling past seat (Begun ticket lane op) may = absurd may
save_as run parallel spelling past seat (Answered ticket reply) may = absurd may
save_as run parallel spelling past seat (Lost ticket why) may = absurd may
save_as run parallel spelling past seat (Kept goal fresh) may = refl
save_as run parallel spelling past seat (Dropped row) may = absurd may
save_as run parallel spelling past seat (Cleared at) may = absurd may
save_as run parallel spelling past seat (Posted n) may = refl
save_as run parallel spelling past seat (Stopped stop) may = refl

save_same : (run : Fixed) (parallel : ℕ) (spelling : Spelling) (event : Event) (past : List Event) → IsComponentRun run spelling (event ∷ past)
    → saves.must_save (known_of (whole run parallel) past) event.what ≡ must_save event.what
save_same run parallel spelling event past h =
    ap (λ (known : Known). saves.must_save known event.what) (known_is run parallel spelling past (before_run run spelling event past h))
    ∙ save_as run parallel spelling past event.seat event.what h.legal.1

after_same : (run : Fixed) (parallel : ℕ) (spelling : Spelling) (history : List Event) → IsComponentRun run spelling history → (count : ℕ)
    → saves.is_after_save (whole run parallel) history count ≡ is_after_save history count
after_same run parallel spelling [] h count = refl
after_same run parallel spelling (event ∷ past) h count =
    ap (λ b. if length past + 1 == count then b else saves.is_after_save (whole run parallel) past count) (save_same run parallel spelling event past h)
    ∙ ap (λ b. if length past + 1 == count then must_save event.what else b) (after_same run parallel spelling past (before_run run spelling event past h) count)

-- ---- marks

abbrev Marks : Type 0 → Bool → Option What → List Event → List ℕ → Type 0
Marks rose wanted next past marks = (Contains marks (length past + 1) ⊎ saves.LacksForFault rose next past marks) ⊎ saves.LacksForMemory wanted next past

marked : (rose : Type 0) (wanted : Bool) (next : Option What) (past : List Event) (marks : List ℕ)
    → (Contains marks (length past + 1) ⊎ LacksForFault rose next past marks) ⊎ LacksForMemory wanted next past → Marks rose wanted next past marks
marked rose wanted next past marks (inl (inl there)) = inl (inl there)
marked rose wanted next past marks (inl (inr lacks)) = inl (inr (record { cause = lacks.cause; none_later = lacks.none_later; stopped = lacks.stopped }))
marked rose wanted next past marks (inr lacks) = inr (record { cause = lacks.cause; stopped = lacks.stopped })

mark_next : (run : Fixed) (spelling : Spelling) (rose : Type 0) (wanted : Bool) (next : Option What) (past : List Event) (marks : List ℕ) (seat : ℕ) (what : What)
    → MayHappen run spelling past seat what → Marks rose wanted next past marks → saves.HasMark rose wanted next what past marks
mark_next run spelling rose wanted next past marks seat (Told request) may has = has
mark_next run spelling rose wanted next past marks seat (HostGone end) may has = has
mark_next run spelling rose wanted next past marks seat (Begun ticket lane op) may has = absurd may
mark_next run spelling rose wanted next past marks seat (Answered ticket reply) may has = has
mark_next run spelling rose wanted next past marks seat (Lost ticket why) may has = has
mark_next run spelling rose wanted next past marks seat (Kept goal fresh) may has = has
mark_next run spelling rose wanted next past marks seat (Dropped row) may has = has
mark_next run spelling rose wanted next past marks seat (Cleared at) may has = has
mark_next run spelling rose wanted next past marks seat (Posted n) may has = has
mark_next run spelling rose wanted next past marks seat (Stopped stop) may has = has

all_marked : (run : Fixed) (parallel : ℕ) (spelling : Spelling) (rose : Type 0) (wanted : Bool) (next : Option What) (history : List Event)
    → IsComponentRun run spelling history → (marks : List ℕ) → AllMarked rose wanted next history marks
    → saves.AllMarked (whole run parallel) rose wanted next history marks
all_marked run parallel spelling rose wanted next [] h marks all = tt
all_marked run parallel spelling rose wanted next (event ∷ past) h marks all = (
  (λ must. mark_next run spelling rose wanted next past marks event.seat event.what h.legal.1
      (marked rose wanted next past marks (all.0 (sym (save_same run parallel spelling event past h) ∙ must)))),
  all_marked run parallel spelling rose wanted (Some event.what) past (before_run run spelling event past h) marks all.1,
)

pub saved_too : (run : Fixed) (parallel : ℕ) (spelling : Spelling) (history : List Event) → IsComponentRun run spelling history
    → (rose : Type 0) (wanted : Bool) (marks : List ℕ) → IsSaved rose wanted history marks
    → saves.IsSaved (whole run parallel) rose wanted history marks
saved_too run parallel spelling history h rose wanted marks saved = record {
  rising = saved.rising;
  after_saves = λ k d below. after_same run parallel spelling history h _ ∙ saved.after_saves k d below;
  all_marked = all_marked run parallel spelling rose wanted None history h marks saved.all_marked;
}

-- ---- texts

dropped_run : (run : Fixed) (spelling : Spelling) (count : ℕ) (history : List Event) → IsComponentRun run spelling history
    → IsComponentRun run spelling (drop count history)
dropped_run run spelling zero history h = h
dropped_run run spelling (suc count) [] h = h
dropped_run run spelling (suc count) (event ∷ past) h = dropped_run run spelling count past (before_run run spelling event past h)

map_same : {X Y : Type 0} (f g : X → Y) → ((x : X) → f x ≡ g x) → (xs : List X) → map f xs ≡ map g xs
map_same f g same [] = refl
map_same f g same (x ∷ xs) = ap (λ y. y ∷ map f xs) (same x) ∙ ap (λ ys. g x ∷ ys) (map_same f g same xs)

pub texts_same : (run : Fixed) (parallel : ℕ) (spelling : Spelling) (history : List Event) → IsComponentRun run spelling history → (marks : List ℕ)
    → saves.saves_of (whole run parallel) spelling history marks ≡ saves_of run spelling history marks
texts_same run parallel spelling history h marks =
    map_same (λ mark. spelling.state_text (state.state_of (whole run parallel) (prefix_of history mark))) (λ mark. spelling.state_text (state_of run (prefix_of history mark)))
    (λ mark. ap (λ (now : Snapshot). spelling.state_text now)
    (states_agree run parallel spelling (prefix_of history mark) (dropped_run run spelling (length history - mark) history h))) marks

pub story_too : (run : Fixed) (parallel : ℕ) (spelling : Spelling) (history : List Event) → IsComponentRun run spelling history
    → (rose : Type 0) (marks : List ℕ) (texts : List (List ℕ)) → IsStory run spelling rose history marks texts
    → saves.IsStory (whole run parallel) spelling rose history marks texts
story_too run parallel spelling history h rose marks texts (inl is) =
    (saves.saves_of (whole run parallel) spelling history marks, inl refl, inl (is ∙ sym (texts_same run parallel spelling history h marks)))
story_too run parallel spelling history h rose marks texts (inr (text, is, further)) =
    let (later, past, whole_is, text_is, none_above) = further.of_prefix in
    let before : IsComponentRun run spelling past = earlier_run run spelling later past (subst (λ (events : List Event). IsComponentRun run spelling events) whole_is h) in (
      saves.saves_of (whole run parallel) spelling history marks,
      inl refl,
      inr (
        further.cause,
        (
          text,
          past,
          record {
            of_prefix = (later, whole_is);
            text_at = inl (text_is ∙ ap (λ (now : Snapshot). spelling.state_text now) (sym (states_agree run parallel spelling past before)));
          },
          none_above,
          is ∙ ap (λ (saved : List (List ℕ)). saved ++ text ∷ []) (sym (texts_same run parallel spelling history h marks)),
        ),
      ),
    )

-- ---- answers

posted_all : (posted there : Bool) → false ≡ (not posted && there) → there ≡ true → posted ≡ true
posted_all true there h is = refl
posted_all false there h is = h ∙ is

all_posted : (run : Fixed) (parallel : ℕ) (spelling : Spelling) (history : List Event) → IsComponentRun run spelling history
    → waiting_of run history ≡ [] → AllAnswered (known_as run parallel history)
all_posted run parallel spelling history h none n there =
    posted_all (has_number (posted_of history) n) (is_some (asked_at (known_as run parallel history) n))
    (ap (λ (waiting : List Waiting). is_waiting waiting n) (sym none) ∙ (IsWaited-legal run spelling history h.legal).told n) there

pub answered_too : (run : Fixed) (parallel : ℕ) (spelling : Spelling) (history : List Event) → IsComponentRun run spelling history
    → waiting_of run history ≡ [] → AllAnswered (known_of (whole run parallel) history)
answered_too run parallel spelling history h none =
    subst (λ (known : Known). AllAnswered known) (sym (known_is run parallel spelling history h)) (all_posted run parallel spelling history h none)
