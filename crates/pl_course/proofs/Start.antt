-- What is kept of a history without events.
use Rattle.std.proofs.Common.{◌≡◌, ◌+◌, true, false, [], length, refl, sym, ap, arith}
use Rattle.pl_columns.specs.Read.{summary_by}
use Rattle.pl_columns.specs.declared.columns.Columns.{Columns}
use Rattle.pl_claims.specs.Columns as claims
use Rattle.pl_errands.specs.Tickets as errands
use Rattle.pl_events.specs.Seen.{Seen}
use Rattle.pl_model.specs.declared.fixed.Fixed.{Fixed}
use Rattle.pl_model.specs.declared.mode.Mode.{Mode}
use Rattle.pl_model.specs.declared.mode.Mode.TheVariants.{Destroy, Preview, Refresh, Up}
use Rattle.pl_model.specs.History.{known_of}
use Rattle.pl_model.specs.Problems.{start_problems}
use Rattle.pl_model.specs.Run.{HasNames, has_host, rows_of}
use Rattle.pl_model.specs.Step.{summary_of}
use Rattle.pl_records.specs.Columns as records
use Rattle.pl_told.specs.Column as requests
use Rattle.pl_course.specs.Together.{GoTogether}
use Rattle.pl_course.specs.Kept.{kept_of}
use Rattle.pl_course.proofs.Fewer.{left_most}

-- a run with a host has no problem at its start
none_first : (run : Fixed) (mode : Mode) → run.mode ≡ mode → has_host mode ≡ true → start_problems run ≡ []
none_first run Up is host = ap (λ (one : Mode). start_problems (record run { mode = one })) is
none_first run Preview is host = ap (λ (one : Mode). start_problems (record run { mode = one })) is
none_first run Destroy is host = absurd (let e : false ≡ true = host in cc)
none_first run (Refresh clear imports) is host = absurd (let e : false ≡ true = host in cc)

-- the columns of a history without events
abbrev pub no_columns : Fixed → Columns
no_columns run = record {
  requests = requests.nothing_kept;
  errands = errands.nothing_kept;
  claims = claims.nothing_decided run;
  records = records.nothing_kept (length (rows_of run)) (length run.base.pending);
  troubles = [];
}

abbrev pub no_events : Fixed → Seen
no_events run = record { events = []; room = length (rows_of run) + length run.base.pending + 2 }

none_told : (run : Fixed) → has_host run.mode ≡ true → summary_by (no_columns run) ≡ kept_of (summary_of run [])
unfolding known_of
none_told run host = λ i. record (summary_by (no_columns run)) { problems = sym (none_first run run.mode refl host) i }

pub started : (run : Fixed) → has_host run.mode ≡ true → HasNames run → GoTogether (no_columns run) (no_events run)
started run host names =
    let rows = left_most [] (length (rows_of run)) in
    let pending = left_most [] (length run.base.pending) in
    record {
      orderly = tt;
      told = none_told run host;
      names = names;
      removals = rows;
      clears = pending;
      room = omega arith;
    }
