-- Columns and a history go together after a goal is kept, where they did before it.
use Rattle.std.proofs.Common.{◌≡◌, ℕ, ◌+◌, false, if◌then◌else◌, List, [], ◌++◌, length, Option, refl, sym, ◌∙◌, ap, arith}
use Rattle.pl_lemmas.specs.Words.{has_number}
use Rattle.pl_columns.specs.Read.{history_by, known_by, summary_by}
use Rattle.pl_columns.specs.declared.columns.Columns.{Columns}
use Rattle.pl_events.specs.Seen.{Seen}
use Rattle.pl_events.specs.declared.event.Event.{Event}
use Rattle.pl_events.specs.declared.event.What.TheVariants.{Kept}
use Rattle.pl_model.specs.declared.fixed.Fixed.{Fixed}
use Rattle.pl_model.specs.History.{known_of}
use Rattle.pl_model.specs.Known.{Known}
use Rattle.pl_model.specs.Legal.{MayHappen}
use Rattle.pl_model.specs.Problems.{at_position, end_problems, ends_well}
use Rattle.pl_model.specs.Step.{Summary, keep, known_in}
use Rattle.pl_model_stays.proofs.Goals.Recorded.{recording-new}
use Rattle.pl_course.specs.Keeping.{kept_columns, left_by_keep, with_keep}
use Rattle.pl_course.specs.Kept.{kept_after}
use Rattle.pl_course.specs.Laws.{Laws}
use Rattle.pl_course.specs.Together.{GoTogether}
use Rattle.pl_course.proofs.Steps.{told_on}
use Rattle.pl_course.proofs.Together.{used}

module _ (laws : Laws) (columns : Columns) (history : Seen) (both : GoTogether columns history) where
  abbrev run : Fixed
  run = columns.claims.run

  abbrev past : List Event
  past = history.events

  abbrev known : Known
  known = known_of run past

  -- a goal whose keep is due is not recorded
  pub unrecorded : (seat goal : ℕ) (fresh : Option ℕ) → MayHappen known seat (Kept goal fresh)
      → has_number columns.records.records.recorded goal ≡ false
  unrecorded seat goal fresh may =
      ap (λ (kept : Summary). has_number kept.recorded goal) both.told
      ∙ recording-new run seat past (Kept goal fresh) goal both.orderly may refl

  -- the summary of the columns, at the position of the next event
  abbrev counted : Summary
  counted = record (summary_by columns) { count = length past }

  first_same : known_in run counted ≡ known_by columns
  unfolding history_by
  first_same = refl

  second_same : (goal : ℕ) (fresh : Option ℕ) → known_in run (keep run counted goal fresh) ≡ known_by (with_keep goal fresh columns)
  unfolding history_by
  second_same goal fresh = refl

  kept_told : (seat goal : ℕ) (fresh : Option ℕ)
      → summary_by (kept_columns (length past) goal fresh (left_by_keep goal fresh columns) columns)
      ≡ kept_after run (length past) seat (Kept goal fresh) (summary_by columns)
  kept_told seat goal fresh = λ i. record (summary_by (with_keep goal fresh columns)) {
    problems = columns.troubles ++ at_position (length past)
        (if ends_well (sym first_same i) (sym (second_same goal fresh) i) (Kept goal fresh) then end_problems (sym (second_same goal fresh) i) else []);
  }

  pub kept : (seat goal : ℕ) (fresh : Option ℕ) → MayHappen known seat (Kept goal fresh)
      → GoTogether (kept_columns (length past) goal fresh (left_by_keep goal fresh columns) columns)
      (used seat (Kept goal fresh) (record history { room = history.room + 1 }))
  kept seat goal fresh may =
      let room = both.room in
      record {
        orderly = (both.orderly, may);
        told = kept_told seat goal fresh ∙ told_on laws.steps run past (summary_by columns) seat (Kept goal fresh) both.told;
        names = both.names;
        removals = both.removals;
        clears = both.clears;
        room = omega arith;
      }
