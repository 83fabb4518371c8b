-- That a history's marks are those that it must have, by tests that compute.
use Rattle.std.proofs.Common.{◌≡◌, ℕ, ◌+◌, ◌<◌, Bool, true, false, not, ◌&&◌, ◌||◌, Contains, Option, None, Some, List, [], ◌∷◌, length, refl, subst, inl, inr}
use Rattle.std.proofs.lemmas.Bool.{and_parts}
use Rattle.std.proofs.lemmas.List.Sums.{AllPass-from_list_all}
use Rattle.std.specs.List.{list_all}
use Rattle.pl_lemmas.proofs.Numbers.{contains_number}
use Rattle.pl_events.specs.declared.event.Event.{Event}
use Rattle.pl_events.specs.declared.event.What.{What}
use Rattle.pl_events.specs.declared.event.What.TheVariants.{Told, HostGone, Begun, Answered, Lost, Kept, Dropped, Cleared, Posted, Stopped}
use Rattle.pl_model.specs.declared.fixed.Fixed.{Fixed}
use Rattle.pl_model.specs.History.{known_of}
use Rattle.pl_lemmas.specs.Words.{has_number}
use Rattle.pl_model.specs.Saves.{AllMarked, HasMark, IsSaved, is_after_save, must_save}
use Rattle.pl_model_legal.proofs.Tests.{are_rising, rising}

-- whether each event that must be saved has its mark
abbrev pub are_marked : Fixed → List Event → List ℕ → Bool
are_marked run [] marks = true
are_marked run (event ∷ past) marks =
    (not (must_save (known_of run past) event.what) || has_number marks (length past + 1)) && are_marked run past marks

has_mark : (rose : Type 0) (wanted : Bool) (next : Option What) (what : What) (past : List Event) (marks : List ℕ)
    → Contains marks (length past + 1) → HasMark rose wanted next what past marks
has_mark rose wanted next (Begun ticket lane about) past marks there = there
has_mark rose wanted next _ past marks there = inl (inl there)

all_marked : (run : Fixed) (rose : Type 0) (wanted : Bool) (next : Option What) (history : List Event) (marks : List ℕ)
    → are_marked run history marks ≡ true → AllMarked run rose wanted next history marks
all_marked run rose wanted next [] marks h = tt
all_marked run rose wanted next (event ∷ past) marks h =
    let must : Bool = must_save (known_of run past) event.what in
    let parts = and_parts (not must || has_number marks (length past + 1)) (are_marked run past marks) h in (
      λ saved. has_mark rose wanted next event.what past marks
          (contains_number marks (length past + 1) (subst (λ (b : Bool). (not b || has_number marks (length past + 1)) ≡ true) saved parts.0)),
      all_marked run rose wanted (Some event.what) past marks parts.1,
    )

-- the marks rise, each is the length just after an event that must be saved, and each such event has its mark
pub saved : (run : Fixed) (history : List Event) (marks : List ℕ) → are_rising marks ≡ true
    → list_all (is_after_save run history) marks ≡ true → are_marked run history marks ≡ true → IsSaved run ⊥ false history marks
saved run history marks rise after all = record {
  rising = rising marks rise;
  after_saves = AllPass-from_list_all (is_after_save run history) marks after;
  all_marked = all_marked run ⊥ false None history marks all;
}
