use Rattle.std.proofs.Common.{◌≡◌, ◌∙◌, Bool, true, false, ◌&&◌, if◌then◌else◌, List, ℕ, None, Some, sym, ap}
use Rattle.std.specs.Bool.{beq}
use Rattle.pl_state.specs.Kinds.{is_of_provider}
use Rattle.pl_base.specs.Keeper.{keeper_in}
use Rattle.pl_model.specs.Run.{rows_of}
use Rattle.pl_claims.specs.Columns.{Kept, is_left_over}
use Rattle.pl_claims.proofs.Seen.{claim_none, claim_some, sound_seen}
use Rattle.pl_claims.proofs.claims.Claims.claim_by.Goals as goal

pub returns-in_err-row : goal.returns-in_err-row
returns-in_err-row c =
    let none : None ≡ keeper_in (rows_of c.args.self.now.run) c.args.urn.now =
    c.in_err-row.ensures ∙ ap (λ (urn : List ℕ). keeper_in (rows_of c.self.inside.base) urn) c.as_str.ensures.text
    ∙ ap (λ (kept : Kept). keeper_in (rows_of kept.run) c.args.urn.now) c.self.view_is in
    c.from_residual.ensures
    ∙ sym (claim_none c.args.self.now.run c.args.self.now.decided c.args.goal.now c.args.urn.now
    (sound_seen c.self.inside c.self.invariant c.args.self.now c.self.view_is) (sym none))

pub returns-then-may_claim : goal.returns-then-may_claim
returns-then-may_claim c =
    let found : Some c.in_ok-row.row ≡ keeper_in (rows_of c.args.self.now.run) c.args.urn.now =
    c.in_ok-row.ensures ∙ ap (λ (urn : List ℕ). keeper_in (rows_of c.self.inside.base) urn) c.as_str.ensures.text
    ∙ ap (λ (kept : Kept). keeper_in (rows_of kept.run) c.args.urn.now) c.self.view_is in
    let may : (beq (is_of_provider c.args.goal.now.urn) (is_of_provider c.args.urn.now)
    && is_left_over c.args.self.now.run c.args.self.now.decided c.in_ok-row.row) ≡ true =
    sym c.may_claim.ensures ∙ c.if-may_claim.true in
    sym (claim_some c.args.self.now.run c.args.self.now.decided c.args.goal.now c.args.urn.now
    (sound_seen c.self.inside c.self.invariant c.args.self.now c.self.view_is) c.in_ok-row.row (sym found)
    ∙ ap (λ (b : Bool). if b then Some c.in_ok-row.row else None) may)

pub returns-else-may_claim : goal.returns-else-may_claim
returns-else-may_claim c =
    let found : Some c.in_ok-row.row ≡ keeper_in (rows_of c.args.self.now.run) c.args.urn.now =
    c.in_ok-row.ensures ∙ ap (λ (urn : List ℕ). keeper_in (rows_of c.self.inside.base) urn) c.as_str.ensures.text
    ∙ ap (λ (kept : Kept). keeper_in (rows_of kept.run) c.args.urn.now) c.self.view_is in
    let may : (beq (is_of_provider c.args.goal.now.urn) (is_of_provider c.args.urn.now)
    && is_left_over c.args.self.now.run c.args.self.now.decided c.in_ok-row.row) ≡ false =
    sym c.may_claim.ensures ∙ c.if-may_claim.false in
    sym (claim_some c.args.self.now.run c.args.self.now.decided c.args.goal.now c.args.urn.now
    (sound_seen c.self.inside c.self.invariant c.args.self.now c.self.view_is) c.in_ok-row.row (sym found)
    ∙ ap (λ (b : Bool). if b then Some c.in_ok-row.row else None) may)
