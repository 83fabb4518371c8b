-- How marks and saves stand to a history that grows.
use Rattle.std.proofs.Common.{◌≡◌, ℕ, ◌+◌, ◌-◌, ◌≤◌, Bool, true, false, List, [], ◌∷◌, ◌++◌, length, All, Contains, Option, Some, None, refl, ◌∙◌, ap, inl, inr, arith, drop, suc}
use Rattle.std.proofs.lemmas.Bool.Decides.{nat_tests}
use Rattle.std.proofs.lemmas.List.Elements.{Contains-append_left}
use Rattle.std.specs.List.{AllByRecursion}
use Rattle.pl_model.specs.Run.{Spelling}
use Rattle.pl_events.specs.declared.event.Event.{Event}
use Rattle.pl_events.specs.declared.event.What.{What}
use Rattle.pl_components.specs.Run.{Fixed}
use Rattle.pl_components.specs.Entries.{state_of}
use Rattle.pl_components.specs.Saves.{AllMarked, HasMark, is_after_save, must_save, prefix_of, saves_of}

-- a mark is no longer than its history
pub is_after_save-le : (history : List Event) (mark : ℕ) → is_after_save history mark ≡ true → mark ≤ length history
is_after_save-le [] mark h = cc
is_after_save-le (event ∷ past) mark h = grind (arith, nat_tests, is_after_save-le past mark)

-- a prefix stays when the history grows
pub prefix_of-grown : (event : Event) (past : List Event) (count : ℕ) → count ≤ length past → prefix_of (event ∷ past) count ≡ prefix_of past count
prefix_of-grown event past count h =
    let e : suc (length past) - count ≡ suc (length past - count) = omega arith
    in ap (λ k. drop k (event ∷ past)) e

-- the whole history is its own prefix
pub prefix_of-whole : (history : List Event) → prefix_of history (length history) ≡ history
prefix_of-whole history = let e : length history - length history ≡ 0 = omega arith in ap (λ k. drop k history) e

-- what stood after a save stands so when the history grows
pub is_after_save-grown : (event : Event) (past : List Event) (mark : ℕ) → is_after_save past mark ≡ true → is_after_save (event ∷ past) mark ≡ true
is_after_save-grown event past mark h = let le = is_after_save-le past mark h in grind (arith, nat_tests)

-- marks as they stand in a grown history
pub All-is_after_save-grown : (event : Event) (past : List Event) (marks : List ℕ)
    → All (λ mark. is_after_save past mark ≡ true) marks → All (λ mark. is_after_save (event ∷ past) mark ≡ true) marks
All-is_after_save-grown event past marks h = λ k d below. is_after_save-grown event past _ (h k d below)

-- the saves stay when the history grows
pub saves_of-grown : (run : Fixed) (s : Spelling) (event : Event) (past : List Event) (marks : List ℕ)
    → AllByRecursion (λ mark. is_after_save past mark ≡ true) marks → saves_of run s (event ∷ past) marks ≡ saves_of run s past marks
saves_of-grown run s event past [] h = refl
saves_of-grown run s event past (mark ∷ marks) h =
    let same = prefix_of-grown event past mark (is_after_save-le past mark (h.0)) in
    let others = saves_of-grown run s event past marks (h.1) in
    ap (λ (p : List Event). s.state_text (state_of run p) ∷ saves_of run s (event ∷ past) marks) same
    ∙ ap (λ (rest : List (List ℕ)). s.state_text (state_of run (prefix_of past mark)) ∷ rest) others

-- with no cause to lack a mark, an event that must be saved has it
pub HasMark-strict : (next : Option What) (event : Event) (past : List Event) (marks : List ℕ)
    → HasMark ⊥ false next event past marks → must_save event.what ≡ true → Contains marks (length past + 1)
HasMark-strict next event past marks h must =
    elim (h must) [
      | inl found ↦ elim found [ inl here ↦ here | inr lacks ↦ absurd lacks.cause ]
      | inr lacks ↦ absurd (let e : false ≡ true = lacks.cause in cc)
    ]

-- then what follows does not matter
pub AllMarked-strict : (next other : Option What) (history : List Event) (marks : List ℕ)
    → AllMarked ⊥ false next history marks → AllMarked ⊥ false other history marks
AllMarked-strict next other [] marks h = tt
AllMarked-strict next other (event ∷ past) marks h =
    (λ must. inl (inl (HasMark-strict next event past marks h.0 must)), h.1)

-- a mark more
pub AllMarked-more : (next : Option What) (history : List Event) (marks : List ℕ) (mark : ℕ)
    → AllMarked ⊥ false next history marks → AllMarked ⊥ false next history (marks ++ mark ∷ [])
AllMarked-more next [] marks mark h = tt
AllMarked-more next (event ∷ past) marks mark h = (
  λ must. inl (inl (Contains-append_left marks (mark ∷ []) _ (HasMark-strict next event past marks h.0 must))),
  AllMarked-more (Some event.what) past marks mark h.1,
)

-- whatever the causes are
pub AllMarked-loosened : (rose : Type 0) (wanted : Bool) (next : Option What) (history : List Event) (marks : List ℕ)
    → AllMarked ⊥ false next history marks → AllMarked rose wanted next history marks
AllMarked-loosened rose wanted next [] marks h = tt
AllMarked-loosened rose wanted next (event ∷ past) marks h = (
  λ must. inl (inl (HasMark-strict next event past marks h.0 must)),
  AllMarked-loosened rose wanted (Some event.what) past marks h.1,
)

-- what lacks its mark for a stop before it goes on lacking it
pub HasMark-followed : (rose : Type 0) (wanted : Bool) (next : What) (event : Event) (past : List Event) (marks : List ℕ)
    → HasMark rose wanted None event past marks → HasMark rose wanted (Some next) event past marks
HasMark-followed rose wanted next event past marks h = λ must.
    elim (h must) [
      | inl found ↦ elim found [
        | inl here ↦ inl (inl here)
        | inr lacks ↦ inl (inr (record {
          cause = lacks.cause;
          none_later = lacks.none_later;
          stopped = elim lacks.stopped [ inl next_is ↦ absurd (cc) | inr before ↦ inr before ];
        }))
      ]
      | inr lacks ↦ inr (record {
        cause = lacks.cause;
        stopped = elim lacks.stopped [ inl next_is ↦ absurd (cc) | inr before ↦ inr before ];
      })
    ]

pub AllMarked-followed : (rose : Type 0) (wanted : Bool) (next : What) (history : List Event) (marks : List ℕ)
    → AllMarked rose wanted None history marks → AllMarked rose wanted (Some next) history marks
AllMarked-followed rose wanted next [] marks h = tt
AllMarked-followed rose wanted next (event ∷ past) marks h =
    (HasMark-followed rose wanted next event past marks h.0, h.1)

-- greater causes
pub HasMark-caused : (rose rose' : Type 0) (wanted wanted' : Bool) (next : Option What) (event : Event) (past : List Event) (marks : List ℕ)
    → (rose → rose') → (wanted ≡ true → wanted' ≡ true)
    → HasMark rose wanted next event past marks → HasMark rose' wanted' next event past marks
HasMark-caused rose rose' wanted wanted' next event past marks up want h = λ must.
    elim (h must) [
      | inl found ↦ elim found [
        | inl here ↦ inl (inl here)
        | inr lacks ↦ inl (inr (record { cause = up lacks.cause; none_later = lacks.none_later; stopped = lacks.stopped }))
      ]
      | inr lacks ↦ inr (record { cause = want lacks.cause; stopped = lacks.stopped })
    ]

pub AllMarked-caused : (rose rose' : Type 0) (wanted wanted' : Bool) (next : Option What) (history : List Event) (marks : List ℕ)
    → (rose → rose') → (wanted ≡ true → wanted' ≡ true)
    → AllMarked rose wanted next history marks → AllMarked rose' wanted' next history marks
AllMarked-caused rose rose' wanted wanted' next [] marks up want h = tt
AllMarked-caused rose rose' wanted wanted' next (event ∷ past) marks up want h = (
  HasMark-caused rose rose' wanted wanted' next event past marks up want h.0,
  AllMarked-caused rose rose' wanted wanted' (Some event.what) past marks up want h.1,
)
