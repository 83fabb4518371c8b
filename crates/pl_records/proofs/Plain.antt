-- The plain events of a summary tell its columns and its records.
use Rattle.std.proofs.Common.{◌≡◌, ℕ, Bool, true, false, if◌then◌else◌, Option, None, refl, sym, ◌∙◌}
use Rattle.pl_lemmas.specs.Words.{has_number, only_if}
use Rattle.pl_model.specs.Step.{Summary, plain_history}
use Rattle.pl_model_step.proofs.Plain.{plain_cleared, plain_host, plain_posted, plain_recorded, plain_removed, plain_stop}
use Rattle.pl_model_step.proofs.PlainTickets.{plain_fresh}
use Rattle.pl_records.specs.Columns.{Records}
use Rattle.pl_records.specs.Follows.{HasRecords}
use Rattle.pl_records.specs.Reads.{PlainTells, TellsColumns, TellsRecords}

chosen : (b : Bool) (o : Option ℕ) → (if b then o else None) ≡ only_if b o
chosen true o = refl
chosen false o = refl

columns_told : (summary : Summary) → TellsColumns summary
columns_told summary = record {
  recorded = plain_recorded summary;
  fresh = λ number. plain_fresh summary number ∙ chosen (has_number summary.recorded number) (summary.fresh number);
  removed = plain_removed summary;
  cleared = plain_cleared summary;
  posted = plain_posted summary;
  host_gone = plain_host summary;
  stopped = plain_stop summary;
}

records_told : (summary : Summary) (records : Records) → HasRecords summary records → TellsRecords (plain_history summary) records
records_told summary records has = record {
  recorded = plain_recorded summary ∙ sym has.recorded;
  fresh = λ number.
      (columns_told summary).fresh number
      ∙ sym (λ i. only_if (has_number (has.recorded i) number) (has.fresh number i));
  removed = plain_removed summary ∙ sym has.removed;
  cleared = plain_cleared summary ∙ sym has.cleared;
  posted = plain_posted summary ∙ sym has.posted;
  host_gone = plain_host summary ∙ sym has.host_gone;
  stopped = plain_stop summary ∙ sym has.stopped;
}

pub plain-tells : PlainTells
plain-tells = record { columns = columns_told; records = records_told }
