-- In a run that deletes everything: which rows that are to be left refer to one that is to be deleted.
use Rattle.std.specs.Prelude.{ℕ, Bool, not, ◌&&◌}
use Rattle.pl_decide.specs.Permits.{is_wanted}
use Rattle.pl_lemmas.specs.Words.{some_passes}
use Rattle.pl_model.specs.Known.{Known}
use Rattle.pl_model.specs.Rows.{is_doomed, row_at}
use Rattle.pl_model.specs.Run.{rows_of}
use Rattle.pl_state.specs.Chain.{refers_to}

-- whether a row is none of those that may be changed
abbrev pub is_unwanted : Known → ℕ → Bool
is_unwanted known row = some_passes (λ entry. not (is_wanted known.run.limits entry.urn)) (row_at known row)

-- whether a row that may not be changed refers to this earlier one, which is to be deleted
abbrev pub holds : Known → ℕ → ℕ → Bool
holds known earlier row = is_unwanted known row && (refers_to (rows_of known.run) row earlier && is_doomed known earlier)
