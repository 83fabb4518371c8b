use Rattle.std.proofs.Common.{◌≡◌, ◌∙◌, true, false, ◌&&◌, ◌||◌, sym}
use Rattle.pl_columns.specs.Read.{known_by}
use Rattle.pl_model.specs.Claims.{is_chained}
use Rattle.pl_model.specs.Rows.{goes_now, is_deleted_first}
use Rattle.pl_old.proofs.Along.{along_by_marks}
use Rattle.pl_old.proofs.doomed.takes_along.Goals as goal

pub returns-then-is_deleted_first : goal.returns-then-is_deleted_first
returns-then-is_deleted_first c =
    let first : true ≡ is_deleted_first (known_by c.args.columns.now) c.args.row =
    sym (sym c.is_deleted_first.ensures ∙ c.if-is_deleted_first.true) in
    c.if-is_deleted_first.true
    ∙ (λ i. first i || (is_chained c.args.columns.now.claims.run c.args.columns.now.claims.decided c.args.row && goes_now (known_by c.args.columns.now) c.args.row))
    ∙ sym (along_by_marks (known_by c.args.columns.now) c.args.row c.args.columns.now.claims.decided)

pub returns-then-is_chained : goal.returns-then-is_chained
returns-then-is_chained c =
    let first : false ≡ is_deleted_first (known_by c.args.columns.now) c.args.row =
    sym (sym c.is_deleted_first.ensures ∙ c.if-is_deleted_first.false) in
    let chained : true ≡ is_chained c.args.columns.now.claims.run c.args.columns.now.claims.decided c.args.row =
    sym (sym c.is_chained.ensures ∙ c.if-is_chained.true) in
    c.goes_now.ensures
    ∙ (λ i. first i || (chained i && goes_now (known_by c.args.columns.now) c.args.row))
    ∙ sym (along_by_marks (known_by c.args.columns.now) c.args.row c.args.columns.now.claims.decided)

pub returns-else-is_chained : goal.returns-else-is_chained
returns-else-is_chained c =
    let first : false ≡ is_deleted_first (known_by c.args.columns.now) c.args.row =
    sym (sym c.is_deleted_first.ensures ∙ c.if-is_deleted_first.false) in
    let chained : false ≡ is_chained c.args.columns.now.claims.run c.args.columns.now.claims.decided c.args.row =
    sym (sym c.is_chained.ensures ∙ c.if-is_chained.false) in
    c.if-is_chained.false
    ∙ (λ i. first i || (chained i && goes_now (known_by c.args.columns.now) c.args.row))
    ∙ sym (along_by_marks (known_by c.args.columns.now) c.args.row c.args.columns.now.claims.decided)
