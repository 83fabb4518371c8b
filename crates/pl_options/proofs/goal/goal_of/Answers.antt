use Rattle.std.proofs.Common.{◌≡◌, ◌∙◌, ℕ, List, Option, ap}
use Rattle.std.specs.Option.{option_copied}
use Rattle.std.proofs.lemmas.Result.{err_from_is_err_and}
use Rattle.pl_urn.specs.Grammar.{child_text}
use Rattle.pl_options.specs.GoalOf.{given}
use Rattle.pl_options.specs.declared.reading.References.{References}
use Rattle.pl_options.proofs.Faults.{goal_has_paths, goal_is_made, refused_path, refused_provider, refused_reference, refused_urn, refused_version}
use Rattle.pl_options.proofs.goal.goal_of.Goals as goal

pub returns-in-Err-clause-refused : goal.returns-in-Err-clause-refused
returns-in-Err-clause-refused c =
    refused_reference _ _ _ _ (c.bad_reference.ensures _ c.in-Err.ensures.refused)

pub returns-in_err-urn-clause-refused : goal.returns-in_err-urn-clause-refused
returns-in_err-urn-clause-refused c =
    let p = err_from_is_err_and c.from_residual.result c.from_residual.ensures.1 in
    rw (p.1, p.2)
    (refused_urn _ _ _ _ c.in-Ok.ensures.passes c.in_err-urn.ensures.refused)

pub returns-in_err-check_paths-clause-refused : goal.returns-in_err-check_paths-clause-refused
returns-in_err-check_paths-clause-refused c =
    let p = err_from_is_err_and c.from_residual-in_err-check_paths.result c.from_residual-in_err-check_paths.ensures.1 in
    rw (p.1, p.2)
    (refused_path _ _ _ _ c.in-Ok.ensures.passes c.in_ok-urn.ensures.passes c.in_err-check_paths.ensures.refused)

pub returns-in_err-check_version-clause-refused : goal.returns-in_err-check_version-clause-refused
returns-in_err-check_version-clause-refused c =
    let p = err_from_is_err_and c.from_residual-in_err-check_version.result c.from_residual-in_err-check_version.ensures.1 in
    rw (p.1, p.2)
    (refused_version _ _ _ _ c.in-Ok.ensures.passes c.in_ok-urn.ensures.passes c.in_ok-check_paths.ensures.passes c.in_err-check_version.ensures.refused)

pub returns-in_err-check_provided-clause-refused : goal.returns-in_err-check_provided-clause-refused
returns-in_err-check_provided-clause-refused c =
    let p = err_from_is_err_and c.from_residual-in_err-check_provided.result c.from_residual-in_err-check_provided.ensures.1 in
    rw (p.1, p.2)
    (refused_provider _ _ _ _
    (record { reference = c.in-Ok.ensures.passes; urn = c.in_ok-urn.ensures.passes; path = c.in_ok-check_paths.ensures.passes; version = c.in_ok-check_version.ensures.passes })
    c.in_err-check_provided.ensures.refused)

pub returns-clause-made : goal.returns-clause-made
returns-clause-made c =
    let above : option_copied c.as_ref.result ≡ given c.args.told.now.parent = c.as_ref.ensures.value ∙ ap (λ (read : References). read.parent) c.in-Ok.ensures.read in
    let told = c.args.told.now in
    let urn = c.in_ok-urn.ensures.made ∙ ap (λ (parent : Option (List ℕ)). child_text parent c.args.stack.now c.args.project.now told.kind told.name) above in
    goal_is_made c.args.stack.now c.args.project.now told c.in_ok-goal_with.field-0
    (record { reference = c.in-Ok.ensures.passes; urn = c.in_ok-urn.ensures.passes; path = c.in_ok-check_paths.ensures.passes; version = c.in_ok-check_version.ensures.passes })
    c.in_ok-check_provided.ensures.passes (c.in_ok-goal_with.ensures c.args.stack.now c.args.project.now urn)

pub returns-clause-paths : goal.returns-clause-paths
returns-clause-paths c =
    let above : option_copied c.as_ref.result ≡ given c.args.told.now.parent = c.as_ref.ensures.value ∙ ap (λ (read : References). read.parent) c.in-Ok.ensures.read in
    let told = c.args.told.now in
    let urn = c.in_ok-urn.ensures.made ∙ ap (λ (parent : Option (List ℕ)). child_text parent c.args.stack.now c.args.project.now told.kind told.name) above in
    goal_has_paths c.args.stack.now c.args.project.now told c.in_ok-goal_with.field-0
    c.in_ok-check_paths.ensures.passes (c.in_ok-goal_with.ensures c.args.stack.now c.args.project.now urn)
