use Rattle.std.proofs.Common.{◌≡◌, ◌∙◌, ◌++◌, ℕ, List, IfOk, ap, subst}
use Rattle.std.specs.Option.{option_or}
use Rattle.pl_decide.specs.declared.problem.Problem.{Problem}
use Rattle.pl_lemmas.specs.Words.{first_some, option_list}
use Rattle.pl_model.specs.Problems.{import_problem, names_none, no_create, unread_row}
use Rattle.pl_model.specs.Run.{imports_of, rows_of}
use Rattle.pl_model.specs.declared.fixed.Fixed.{Fixed}
use Rattle.pl_problems.specs.Unmet.{unmet_import}
use Rattle.pl_problems.proofs.start.refresh_problems.Goals as goal

pub returns : goal.returns
returns c =
    let imports : c.imports_of-imports.result.now ≡ imports_of c.args.base.now.mode =
    c.imports_of-imports.ensures ∙ ap (λ (run : Fixed). imports_of run.mode) c.run-run.ensures in
    let uncreated : c.in_ok-uncreated.uncreated ≡ first_some (no_create c.args.base.now) (imports_of c.args.base.now.mode) =
    c.in_ok-uncreated.ensures ∙ (λ i. first_some (no_create (c.run-run.ensures i)) (imports i)) in
    let unprovided : c.in_ok-unprovided.unprovided
    ≡ option_or (first_some unread_row (rows_of c.args.base.now)) (first_some (import_problem names_none c.args.base.now) (imports_of c.args.base.now.mode)) =
    c.in_ok-unprovided.ensures
    ∙ ap (λ (run : Fixed). option_or (first_some unread_row (rows_of run)) (first_some (import_problem names_none run) (imports_of run.mode))) c.run-run.ensures in
    let unmet : c.in_ok-unmet.unmet ≡ first_some (unmet_import c.args.base.now) (imports_of c.args.base.now.mode) =
    c.in_ok-unmet.ensures ∙ ap (λ (pairs : List (List ℕ × List ℕ)). first_some (unmet_import c.args.base.now) pairs) imports in
    subst (λ (lists : List Problem). IfOk c.three_found.result (λ problems. problems.items ≡ lists))
    (λ i. option_list (uncreated i) ++ (option_list (unprovided i) ++ option_list (unmet i))) c.three_found.ensures
