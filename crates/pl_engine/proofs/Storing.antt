-- How the store stands to a history that grows.
use Rattle.std.proofs.Common.{◌≡◌, ℕ, ◌+◌, ◌<◌, ◌≤◌, Bool, true, false, ◌||◌, not, List, [], ◌∷◌, ◌++◌, length, All, Contains, Option, Some, None, option_map, refl, sym, ◌∙◌, ap, subst, inl, inr, arith, suc, append_assoc}
use Rattle.std.proofs.lemmas.Grind.{common_steps}
use Rattle.std.proofs.lemmas.Bool.Decides.{nat_tests}
use Rattle.std.proofs.lemmas.List.{map-append}
use Rattle.std.proofs.lemmas.List.Elements.{All-push, Contains-push, recursion_from_All}
use Rattle.std.proofs.lemmas.List.Quantifiers.{all_pairs_push}
use Rattle.std.specs.List.{list_all}
use Rattle.std.proofs.Math.Bool.{or-true}
use Rattle.pl_model.specs.Run.{Spelling}
use Rattle.pl_events.specs.Closing.{has_stop}
use Rattle.pl_events.specs.declared.event.Event.{Event}
use Rattle.pl_events.specs.declared.event.What.{What}
use Rattle.pl_events.specs.declared.event.What.TheVariants.{Kept, Stopped}
use Rattle.pl_events.specs.declared.event.Stop.{Stop}
use Rattle.pl_events.specs.declared.event.Stop.TheVariants.{StoreFault, NoMemory}
use Rattle.pl_world.specs.Told.{Grew, IsKeptOrAdded}
use Rattle.pl_components.specs.Run.{Fixed, state_with}
use Rattle.pl_state.specs.declared.entry.Entry.{Entry}
use Rattle.pl_components.specs.Requests.{goals_of}
use Rattle.pl_components.specs.Entries.{entries_after, new_entries, state_of}
use Rattle.pl_components.specs.Saves.{IsStory, is_after_save, must_save, prefix_of, saves_of}
use Rattle.pl_state.specs.declared.snapshot.Snapshot.{Snapshot}
use Rattle.pl_world.specs.Counts.{Rose}
use Rattle.pl_checkpoint_text.specs.Spelled.{checkpoint_text}
use Rattle.pl_engine.specs.Spelled.{host_spelling}
use Rattle.pl_model.specs.Causes.{is_want_stop}
use Rattle.pl_engine.specs.Answered.{Stops}
use Rattle.pl_engine.specs.Journal.{Consistent, kept_event, run_of, stop_event, stopped_by}
use Rattle.pl_engine.specs.Kept.{IfFault, IfWant}
use Rattle.pl_engine.specs.declared.journal.Journal.{Journal}
use Rattle.pl_engine.specs.Stored.{Adds, IsComplete, IsKeptUp, Stored}
use Rattle.pl_engine.proofs.Saving.{is_after_save-le, All-is_after_save-grown, prefix_of-whole, saves_of-grown, AllMarked-strict, AllMarked-more, AllMarked-loosened, AllMarked-followed, AllMarked-caused}

module _ (run : Fixed) (s : Spelling) where
  same_saves : (event : Event) (past : List Event) (marks : List ℕ)
      → All (λ mark. is_after_save past mark ≡ true) marks → saves_of run s (event ∷ past) marks ≡ saves_of run s past marks
  same_saves event past marks h = saves_of-grown run s event past marks (recursion_from_All _ marks h)

  -- an event that need not be saved records nothing
  same_entries : (event : Event) (past : List Event) → must_save event.what ≡ false → new_entries run (event ∷ past) ≡ new_entries run past
  same_entries event past need = same event.what need
    where
      same : (what : What) → must_save what ≡ false → entries_after what (goals_of run past) (new_entries run past) ≡ new_entries run past
      same (Kept _ _) need = absurd (cc)
      same _ need = refl

  -- an event that need not be saved leaves the store complete
  pub IsComplete-grown : (event : Event) (past : List Event) (marks : List ℕ) (before now : Option (List (List ℕ)))
      → must_save event.what ≡ false → IsComplete run s past marks before now → IsComplete run s (event ∷ past) marks before now
  IsComplete-grown event past marks before now need h = record {
    rising = h.rising;
    after_saves = All-is_after_save-grown event past marks h.after_saves;
    all_marked = (λ must. absurd (cc), AllMarked-strict None (Some event.what) past marks h.all_marked);
    grown = rw (same_saves event past marks h.after_saves) h.grown;
    present = elim h.present [
      | inl none ↦ inl (none.0, same_entries event past need ∙ none.1)
      | inr some ↦ inr (
        some.0,
        same_saves event past marks h.after_saves ∙ some.1
            ∙ ap (λ (entries : List Entry). some.0 ++ s.state_text (state_with run entries) ∷ []) (sym (same_entries event past need)),
      )
    ];
  }

  -- a complete store is kept up, whatever the causes
  pub IsKeptUp-from_complete : (rose : Type 0) (wanted : Bool) (past : List Event) (marks : List ℕ) (before now : Option (List (List ℕ)))
      → IsComplete run s past marks before now → IsKeptUp run s rose wanted past marks before now
  IsKeptUp-from_complete rose wanted past marks before now h = record {
    saved = record {
      rising = h.rising;
      after_saves = h.after_saves;
      all_marked = AllMarked-loosened rose wanted None past marks h.all_marked;
    };
    grown = (saves_of run s past marks, h.grown, inl refl);
  }

  -- the story is still told by a history that grew without a save
  pub IsStory-grown : (rose : Type 0) (event : Event) (past : List Event) (marks : List ℕ) (texts : List (List ℕ))
      → All (λ mark. is_after_save past mark ≡ true) marks
      → IsStory run s rose past marks texts → IsStory run s rose (event ∷ past) marks texts
  IsStory-grown rose event past marks texts after h =
      let same = same_saves event past marks after in
      elim h [
        | inl exact ↦ inl (exact ∙ sym same)
        | inr more ↦ inr (
          more.0,
          more.1 ∙ ap (λ (saves : List (List ℕ)). saves ++ more.0 ∷ []) (sym same),
          record {
            cause = more.2.cause;
            of_prefix = (
              event ∷ more.2.of_prefix.0,
              more.2.of_prefix.1,
              ap (λ (rest : List Event). event ∷ rest) more.2.of_prefix.2,
              more.2.of_prefix.3,
              more.2.of_prefix.4,
            );
          },
        )
      ]

  pub IsKeptUp-grown : (rose : Type 0) (wanted : Bool) (event : Event) (past : List Event) (marks : List ℕ) (before now : Option (List (List ℕ)))
      → must_save event.what ≡ false → IsKeptUp run s rose wanted past marks before now → IsKeptUp run s rose wanted (event ∷ past) marks before now
  IsKeptUp-grown rose wanted event past marks before now need h = record {
    saved = record {
      rising = h.saved.rising;
      after_saves = All-is_after_save-grown event past marks h.saved.after_saves;
      all_marked = (λ must. absurd (cc), AllMarked-followed rose wanted event.what past marks h.saved.all_marked);
    };
    grown = (h.grown.0, h.grown.1, IsStory-grown rose event past marks h.grown.0 h.saved.after_saves h.grown.2);
  }

  -- an event that need not be saved changes nothing of how the store stands
  pub Stored-grown : (rose : Type 0) (wanted : Bool) (event : Event) (past : List Event) (marks : List ℕ) (before now : Option (List (List ℕ)))
      → must_save event.what ≡ false → Stored run s rose wanted past marks before now → Stored run s rose wanted (event ∷ past) marks before now
  Stored-grown rose wanted event past marks before now need h = record {
    complete = λ none. IsComplete-grown event past marks before now need (h.complete (grind arith));
    kept_up = λ some. kept (has_stop past) refl;
  }
    where
      kept : (b : Bool) → has_stop past ≡ b → IsKeptUp run s rose wanted (event ∷ past) marks before now
      kept true is = IsKeptUp-grown rose wanted event past marks before now need (h.kept_up is)
      kept false is = IsKeptUp-from_complete rose wanted (event ∷ past) marks before now
          (IsComplete-grown event past marks before now need (h.complete is))

  -- nor do several such events
  pub Stored-grown_by : (rose : Type 0) (wanted : Bool) (events : List Event) (past : List Event) (marks : List ℕ) (before now : Option (List (List ℕ)))
      → list_all (λ event. not (must_save event.what)) events ≡ true
      → Stored run s rose wanted past marks before now → Stored run s rose wanted (events ++ past) marks before now
  Stored-grown_by rose wanted [] past marks before now need h = h
  Stored-grown_by rose wanted (event ∷ events) past marks before now need h =
      Stored-grown rose wanted event (events ++ past) marks before now (grind arith)
      (Stored-grown_by rose wanted events past marks before now (grind arith) h)

  pub Stored-adds : (rose : Type 0) (wanted : Bool) (past new : List Event) (marks : List ℕ) (before now : Option (List (List ℕ)))
      → Adds (λ what. not (must_save what)) past new
      → Stored run s rose wanted past marks before now → Stored run s rose wanted new marks before now
  Stored-adds rose wanted past new marks before now adds h =
      subst (λ (history : List Event). Stored run s rose wanted history marks before now) (sym adds.1)
      (Stored-grown_by rose wanted adds.0 past marks before now adds.2 h)

  -- greater causes
  pub Stored-caused : (rose rose' : Type 0) (wanted wanted' : Bool) (past : List Event) (marks : List ℕ) (before now : Option (List (List ℕ)))
      → (rose → rose') → (wanted ≡ true → wanted' ≡ true)
      → Stored run s rose wanted past marks before now → Stored run s rose' wanted' past marks before now
  Stored-caused rose rose' wanted wanted' past marks before now up want h = record {
    complete = h.complete;
    kept_up = λ some. let k = h.kept_up some in record {
      saved = record {
        rising = k.saved.rising;
        after_saves = k.saved.after_saves;
        all_marked = AllMarked-caused rose rose' wanted wanted' None past marks up want k.saved.all_marked;
      };
      grown = (
        k.grown.0,
        k.grown.1,
        elim k.grown.2 [
          | inl exact ↦ inl exact
          | inr more ↦ inr (more.0, more.1, record { cause = up more.2.cause; of_prefix = more.2.of_prefix })
        ],
      );
    };
  }

  -- the saves with one more, of the whole history
  saves_of-more : (event : Event) (past : List Event) (marks : List ℕ)
      → All (λ mark. is_after_save past mark ≡ true) marks
      → saves_of run s (event ∷ past) (marks ++ suc (length past) ∷ []) ≡ saves_of run s past marks ++ s.state_text (state_of run (event ∷ past)) ∷ []
  saves_of-more event past marks after =
      map-append (λ (mark : ℕ). s.state_text (state_of run (prefix_of (event ∷ past) mark))) marks (suc (length past) ∷ [])
      ∙ ap (λ (saves : List (List ℕ)). saves ++ s.state_text (state_of run (prefix_of (event ∷ past) (suc (length past)))) ∷ []) (same_saves event past marks after)
      ∙ ap (λ (p : List Event). saves_of run s past marks ++ s.state_text (state_of run p) ∷ []) (prefix_of-whole (event ∷ past))

  -- a story that grew twice grew by both
  pub Grew-twice : (before middle now : Option (List (List ℕ))) (first second : List (List ℕ))
      → Grew before middle first → Grew middle now second → Grew before now (first ++ second)
  Grew-twice None middle now first second a b = grind (arith, common_steps)
  Grew-twice (Some told) middle now first second a b = b ∙ ap (λ m. option_map (λ (xs : List (List ℕ)). xs ++ second) m) a
      ∙ ap (λ (xs : List (List ℕ)). Some xs) (append_assoc told first second)

  marks_below : (event : Event) (past : List Event) (marks : List ℕ) → All (λ mark. is_after_save past mark ≡ true) marks
      → All (λ mark. mark < length past + 1) marks
  marks_below event past marks after = λ k d below. let le = is_after_save-le past _ (after k d below) in omega arith

  marks_within : (event : Event) (past : List Event) (marks : List ℕ) → All (λ mark. is_after_save past mark ≡ true) marks
      → All (λ mark. mark ≤ length (event ∷ past)) marks
  marks_within event past marks after = λ k d below. let le = is_after_save-le past _ (after k d below) in omega arith

  marked_last : (event : Event) (past : List Event) → must_save event.what ≡ true → is_after_save (event ∷ past) (suc (length past)) ≡ true
  marked_last event past must = grind (arith, nat_tests)

  -- an event that was saved, with its mark
  pub IsComplete-saved : (event : Event) (past : List Event) (marks : List ℕ) (before middle now : Option (List (List ℕ)))
      → must_save event.what ≡ true
      → IsComplete run s past marks before middle → Grew middle now (s.state_text (state_of run (event ∷ past)) ∷ [])
      → IsComplete run s (event ∷ past) (marks ++ suc (length past) ∷ []) before now
  IsComplete-saved event past marks before middle now must h grew = record {
    rising = all_pairs_push (λ a b. a < b) marks (suc (length past)) h.rising
        (λ k d below. let le = is_after_save-le past _ (h.after_saves k d below) in omega arith);
    after_saves = All-push (λ mark. is_after_save (event ∷ past) mark ≡ true) marks (suc (length past))
        (All-is_after_save-grown event past marks h.after_saves) (marked_last event past must);
    all_marked = (
      λ _. inl (inl (let e : suc (length past) ≡ length past + 1 = omega arith in
          subst (λ (n : ℕ). Contains (marks ++ suc (length past) ∷ []) n) e (Contains-push marks (suc (length past))))),
      AllMarked-strict None (Some event.what) past (marks ++ suc (length past) ∷ []) (AllMarked-more None past marks (suc (length past)) h.all_marked),
    );
    grown = subst (λ (texts : List (List ℕ)). Grew before now texts) (sym (saves_of-more event past marks h.after_saves))
        (Grew-twice before middle now (saves_of run s past marks) (s.state_text (state_of run (event ∷ past)) ∷ []) h.grown grew);
    present = inr (saves_of run s past marks, saves_of-more event past marks h.after_saves);
  }

  -- an event whose save failed, with the stop after it; its text may have arrived all the same
  pub IsKeptUp-failed : (rose : Type 0) (wanted : Bool) (seat : ℕ) (event : Event) (past : List Event) (marks : List ℕ) (before middle now : Option (List (List ℕ)))
      → rose → IsComplete run s past marks before middle
      → IsKeptOrAdded middle now (s.state_text (state_of run (event ∷ past)))
      → IsKeptUp run s rose wanted (record { seat = seat; what = Stopped StoreFault } ∷ event ∷ past) marks before now
  IsKeptUp-failed rose wanted seat event past marks before middle now cause h arrived =
      let stop : Event = record { seat = seat; what = Stopped StoreFault } in
      let after = All-is_after_save-grown event past marks h.after_saves in
      let same = same_saves stop (event ∷ past) marks after ∙ same_saves event past marks h.after_saves in
      record {
        saved = record {
          rising = h.rising;
          after_saves = All-is_after_save-grown stop (event ∷ past) marks after;
          all_marked = (
            λ must. absurd (cc),
            (
              λ must. inl (inr (record { cause = cause; none_later = marks_below event past marks h.after_saves; stopped = inl refl })),
              AllMarked-loosened rose wanted (Some event.what) past marks (AllMarked-strict None (Some event.what) past marks h.all_marked),
            ),
          );
        };
        grown = elim arrived [
          | inl kept ↦ (saves_of run s past marks, subst (λ (story : Option (List (List ℕ))). Grew before story (saves_of run s past marks)) (sym kept) h.grown, inl (sym same))
          | inr added ↦ (
            saves_of run s past marks ++ s.state_text (state_of run (event ∷ past)) ∷ [],
            Grew-twice before middle now (saves_of run s past marks) (s.state_text (state_of run (event ∷ past)) ∷ []) h.grown added,
            inr (
              s.state_text (state_of run (event ∷ past)),
              ap (λ (saves : List (List ℕ)). saves ++ s.state_text (state_of run (event ∷ past)) ∷ []) (sym same),
              record { cause = cause; of_prefix = (stop ∷ [], event ∷ past, refl, refl, marks_within event past marks h.after_saves) },
            ),
          )
        ];
      }

  -- an event that was not saved for want of memory, with the stop after it
  pub IsKeptUp-wanted : (rose : Type 0) (seat : ℕ) (event : Event) (past : List Event) (marks : List ℕ) (before now : Option (List (List ℕ)))
      → IsComplete run s past marks before now
      → IsKeptUp run s rose true (record { seat = seat; what = Stopped NoMemory } ∷ event ∷ past) marks before now
  IsKeptUp-wanted rose seat event past marks before now h =
      let stop : Event = record { seat = seat; what = Stopped NoMemory } in
      let after = All-is_after_save-grown event past marks h.after_saves in
      let same = same_saves stop (event ∷ past) marks after ∙ same_saves event past marks h.after_saves in
      record {
        saved = record {
          rising = h.rising;
          after_saves = All-is_after_save-grown stop (event ∷ past) marks after;
          all_marked = (
            λ must. absurd (cc),
            (
              λ must. inr (record { cause = refl; stopped = inl refl }),
              AllMarked-loosened rose true (Some event.what) past marks (AllMarked-strict None (Some event.what) past marks h.all_marked),
            ),
          );
        };
        grown = (saves_of run s past marks, h.grown, inl (sym same));
      }

  -- an event that need not be saved, with causes that may have grown
  pub Stored-step : (rose rose' : Type 0) (wanted wanted' : Bool) (past new : List Event) (marks marks' : List ℕ) (before now : Option (List (List ℕ)))
      → (rose → rose') → (wanted ≡ true → wanted' ≡ true)
      → Adds (λ what. not (must_save what)) past new → marks' ≡ marks
      → Stored run s rose wanted past marks before now → Stored run s rose' wanted' new marks' before now
  Stored-step rose rose' wanted wanted' past new marks marks' before now up want adds same h =
      subst (λ (ms : List ℕ). Stored run s rose' wanted' new ms before now) (sym same)
      (Stored-caused rose rose' wanted wanted' new marks before now up want
      (Stored-adds rose wanted past new marks before now adds h))

  -- a keep with its save
  pub Stored-saved : (rose rose' : Type 0) (wanted wanted' : Bool) (past new : List Event) (goal : ℕ) (marks marks' : List ℕ) (before middle now : Option (List (List ℕ)))
      → has_stop past ≡ false → new ≡ kept_event goal ∷ past → marks' ≡ marks ++ length new ∷ []
      → Grew middle now (s.state_text (state_of run new) ∷ [])
      → Stored run s rose wanted past marks before middle → Stored run s rose' wanted' new marks' before now
  Stored-saved rose rose' wanted wanted' past new goal marks marks' before middle now going is marked grew h =
      let P : List Event → Type 0 = λ history. marks' ≡ marks ++ length history ∷ [] in
      let Q : List Event → Type 0 = λ history. Grew middle now (s.state_text (state_of run history) ∷ []) in
      let marked' : marks' ≡ marks ++ suc (length past) ∷ [] = subst P is marked in
      let grew' : Grew middle now (s.state_text (state_of run (kept_event goal ∷ past)) ∷ []) = subst Q is grew in
      subst (λ (history : List Event). Stored run s rose' wanted' history marks' before now) (sym is)
      (subst (λ (ms : List ℕ). Stored run s rose' wanted' (kept_event goal ∷ past) ms before now) (sym marked')
      (record {
        complete = λ none. IsComplete-saved (kept_event goal) past marks before middle now refl (h.complete going) grew';
        kept_up = λ some. absurd (let e : has_stop past ≡ true = some in cc);
      }))

  -- a keep whose save failed, with the stop that says so
  pub Stored-unsaved : (rose rose' : Type 0) (wanted wanted' : Bool) (past new : List Event) (goal : ℕ) (stop : Stop) (marks marks' : List ℕ) (before middle now : Option (List (List ℕ)))
      → has_stop past ≡ false → new ≡ stop_event stop ∷ kept_event goal ∷ past → marks' ≡ marks
      → IfFault stop rose' → IfFault stop (IsKeptOrAdded middle now (s.state_text (state_of run (kept_event goal ∷ past))))
      → IfWant stop (now ≡ middle) → IfWant stop (wanted' ≡ true)
      → Stored run s rose wanted past marks before middle → Stored run s rose' wanted' new marks' before now
  Stored-unsaved rose rose' wanted wanted' past new goal stop marks marks' before middle now going is same cause arrived kept want h =
      subst (λ (history : List Event). Stored run s rose' wanted' history marks' before now) (sym is)
      (subst (λ (ms : List ℕ). Stored run s rose' wanted' (stop_event stop ∷ kept_event goal ∷ past) ms before now) (sym same)
      (record {
        complete = λ none. absurd (let e : true ≡ false = none in cc);
        kept_up = λ _. left stop cause arrived kept want;
      }))
    where
      left : (stop : Stop) → IfFault stop rose' → IfFault stop (IsKeptOrAdded middle now (s.state_text (state_of run (kept_event goal ∷ past))))
          → IfWant stop (now ≡ middle) → IfWant stop (wanted' ≡ true)
          → IsKeptUp run s rose' wanted' (stop_event stop ∷ kept_event goal ∷ past) marks before now
      left StoreFault cause arrived kept want =
          IsKeptUp-failed rose' wanted' 0 (kept_event goal) past marks before middle now cause (h.complete going) arrived
      left NoMemory cause arrived kept want =
          subst (λ (story : Option (List (List ℕ))). IsKeptUp run s rose' wanted' (stop_event NoMemory ∷ kept_event goal ∷ past) marks before story) (sym kept)
          (subst (λ (w : Bool). IsKeptUp run s rose' w (stop_event NoMemory ∷ kept_event goal ∷ past) marks before middle) (sym want)
          (IsKeptUp-wanted rose' 0 (kept_event goal) past marks before middle (h.complete going)))
      left _ cause arrived kept want = absurd cause

-- a count that rose since a call rose since before it
pub Rose-earlier : (start before now : ℕ) → start ≤ before → Rose before now → Rose start now
Rose-earlier start before now h rose = omega arith

pub Rose-later : (start before now : ℕ) → before ≤ now → Rose start before → Rose start now
Rose-later start before now h rose = omega arith

-- the journal's state is that of its history
pub state_is : (run : Fixed) (journal : Journal) → Consistent run journal → journal.state ≡ state_of run journal.history
state_is run journal h = h.state

-- the checkpoint's text is how this engine spells a state
pub state_text-host : (state : Snapshot) → host_spelling.state_text state ≡ checkpoint_text state
unfolding host_spelling
state_text-host state = refl

pub text-host : (run : Fixed) (journal : Journal) (history : List Event) → Consistent run journal → history ≡ journal.history
    → checkpoint_text journal.state ≡ host_spelling.state_text (state_of run history)
text-host run journal history h is =
    ap (λ (state : Snapshot). checkpoint_text state) (state_is run journal h)
    ∙ ap (λ (past : List Event). checkpoint_text (state_of run past)) (sym is)
    ∙ sym (state_text-host (state_of run history))

-- a stop where none stands
pub stopped_by-first : (stop : Stop) (stopped : Bool) (history : List Event) → stopped ≡ false
    → stopped_by stop stopped history ≡ stop_event stop ∷ history
stopped_by-first stop stopped history none = rw none refl

-- a stop at any moment adds itself or nothing
pub Stops-stopped_by : (stop : Stop) (stopped : Bool) (history new : List Event) → new ≡ stopped_by stop stopped history → Stops history new
Stops-stopped_by stop true history new is = inl is
Stops-stopped_by stop false history new is = inr (stop, is)

pub IfFault-map : (stop : Stop) (P Q : Type 0) → (P → Q) → IfFault stop P → IfFault stop Q
IfFault-map StoreFault P Q f h = f h
IfFault-map NoMemory P Q f h = tt
IfFault-map _ P Q f h = h

-- want of memory is noted
pub want_of : (stop : Stop) (before now : Bool) (P : Type 0) → now ≡ (before || is_want_stop stop)
    → IfFault stop P → IfWant stop (now ≡ true)
want_of StoreFault before now P is h = tt
want_of NoMemory before now P is h = is ∙ or-true before
want_of _ before now P is h = h

pub or_keeps : (before more now : Bool) → now ≡ (before || more) → before ≡ true → now ≡ true
or_keeps before more now is h = is ∙ rw h refl

pub or_wants : (before now : Bool) → now ≡ (before || true) → now ≡ true
or_wants before now is = is ∙ or-true before

-- a journal that is consistent with a run has that run's data
pub run_same : (run : Fixed) (journal : Journal) → Consistent run journal → run_of journal ≡ run
run_same run journal h =
    ap (λ (stack : List ℕ). record { stack = stack; project = journal.project; name = journal.state.stack; rest = journal.state.rest }) h.stack
    ∙ ap (λ (project : List ℕ). record { stack = run.stack; project = project; name = journal.state.stack; rest = journal.state.rest }) h.project
    ∙ ap (λ (state : Snapshot). record { stack = run.stack; project = run.project; name = state.stack; rest = state.rest }) h.state
