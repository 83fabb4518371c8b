use Rattle.std.proofs.Common.{◌∙◌, ℕ, false, if◌then◌else◌, Option, List, [], refl, sym, ap}
use Rattle.pl_columns.specs.Read.{known_by}
use Rattle.pl_columns.specs.declared.columns.Columns.{Columns}
use Rattle.pl_decide.specs.declared.problem.Problem.{Problem}
use Rattle.pl_events.specs.declared.event.What.TheVariants as what
use Rattle.pl_model.specs.Problems.{end_problems, ends_well}
use Rattle.pl_records.specs.Columns.{Kept, with_kept}
use Rattle.pl_core.proofs.keeping.keep_goal.Goals as goal

-- the problems of what is left, where the run is over by a keep
abbrev left_between : ℕ → Option ℕ → Columns → Columns → List Problem
left_between number fresh before after =
    if ends_well (known_by before) (known_by after) (what.Kept number fresh) then end_problems (known_by after) else []

pub returns-in-Ok-clause-left : goal.returns-in-Ok-clause-left
returns-in-Ok-clause-left c =
    c.in-Ok.ensures (known_by c.args.columns.now) c.args.goal c.args.fresh (record { decided = refl; problems = refl })
    (sym c.is_over-was_over.ensures)
    ∙ ap (left_between c.args.goal c.args.fresh c.args.columns.now)
    (λ i. record c.args.columns.now {
      records = (c.keep_prepared.ensures
          ∙ ap (λ (one : Kept). record one { records = with_kept c.args.goal c.args.fresh one.records; ready = false })
          c.in_ok-prepare.ensures.ready) i;
    })
