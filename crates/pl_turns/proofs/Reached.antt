-- What is decided next, and what is settled then.
use Rattle.std.proofs.Common.{◌≡◌, ◌<◌, ◌-◌, ◌∙◌, suc, Bool, true, false, ◌==◌, if◌then◌else◌, List, [], ◌∷◌, length, is_some, Option, Some, None, option_and_then, refl, sym, ap, arith}
use Rattle.std.proofs.lemmas.Option.{none-some}
use Rattle.std.specs.List.{cons_option}
use Rattle.std.specs.Option.{IfSome}
use Rattle.pl_claims.specs.Columns.{Kept as KeptClaims}
use Rattle.pl_claims.specs.Follows.{Decides}
use Rattle.pl_claims.proofs.Claiming.{claim_free, claim_low}
use Rattle.pl_claims.proofs.Settling.{one_decided, settled_over, settled_waits}
use Rattle.pl_errands.specs.Tickets.{Kept as KeptErrands}
use Rattle.pl_requests.specs.Column.{Kept as KeptRequests}
use Rattle.pl_turns.specs.Next.{Extends, all_settled, next_decided}
use Rattle.pl_lemmas.proofs.Numbers.{equal_numbers}
use Rattle.pl_lemmas.proofs.Options.{then_some}
use Rattle.pl_state.specs.declared.goal.Goal.{Goal}
use Rattle.pl_model.specs.declared.decided.Decided.{Decided}
use Rattle.pl_model.specs.declared.errand.Closed.{Closed}
use Rattle.pl_model.specs.declared.fixed.Fixed.{Fixed}
use Rattle.pl_model.specs.Claims.{is_claimed}
use Rattle.pl_model.specs.Decisions.{Turn, decided_at, turn_in, turn_of}
use Rattle.pl_model.specs.Run.{rows_of}
use Rattle.pl_model.specs.Step.{settled}

module _ (run : Fixed) (answers : List Closed) where
  turn_within : (goals : List Goal) (decided : List Decided) (turn : Turn) → turn_in run answers goals decided ≡ Some turn
      → length decided < length goals
  turn_within [] decided turn next = absurd (none-some turn next)
  turn_within (goal ∷ earlier) decided turn next = by (length earlier == length decided) refl next (turn_within earlier decided turn)
    where
      by : (b : Bool) → (length earlier == length decided) ≡ b
          → (if b then Some (turn_of run answers earlier decided goal) else turn_in run answers earlier decided) ≡ Some turn
          → (turn_in run answers earlier decided ≡ Some turn → length decided < length earlier) → length decided < suc (length earlier)
      by true is here rest = let same : length earlier ≡ length decided = equal_numbers (length earlier) (length decided) is in omega arith
      by false is later rest = let less : length decided < length earlier = rest later in omega arith

  -- ---- what is decided next

  decides : (goals : List Goal) (decided : List Decided) (one : Decided)
      → option_and_then decided_at (turn_in run answers goals decided) ≡ Some one → Decides run answers goals decided (Some one)
  decides goals decided one next =
      let found = then_some decided_at (turn_in run answers goals decided) one next in
      record { turn = found.0; is_next = found.1; gives = found.2 }

  -- what is decided next is settled
  pub next_settled : (goals : List Goal) (decided : List Decided) (one : Decided)
      → option_and_then decided_at (turn_in run answers goals decided) ≡ Some one
      → settled run answers decided goals ≡ settled run answers (one ∷ decided) goals
  next_settled goals decided one next = one_decided run answers goals decided one (decides goals decided one next)

  -- a goal is left for it
  pub next_within : (goals : List Goal) (decided : List Decided) (one : Decided)
      → option_and_then decided_at (turn_in run answers goals decided) ≡ Some one → length decided < length goals
  next_within goals decided one next =
      turn_within goals decided (decides goals decided one next).turn (decides goals decided one next).is_next

  -- its claim is a row that no goal claims
  pub next_row : (goals : List Goal) (decided : List Decided) (one : Decided)
      → option_and_then decided_at (turn_in run answers goals decided) ≡ Some one → IfSome one.claim (λ row. row < length (rows_of run))
  next_row goals decided one next = claim_low run answers goals decided one (decides goals decided one next)

  pub next_unclaimed : (goals : List Goal) (decided : List Decided) (one : Decided)
      → option_and_then decided_at (turn_in run answers goals decided) ≡ Some one → IfSome one.claim (λ row. is_claimed decided row ≡ false)
  next_unclaimed goals decided one next = claim_free run answers goals decided one (decides goals decided one next)

  -- where nothing is decided next, all is settled
  pub none_next : (goals : List Goal) (decided : List Decided)
      → option_and_then decided_at (turn_in run answers goals decided) ≡ None → settled run answers decided goals ≡ decided
  none_next goals decided none = by (turn_in run answers goals decided) refl none
    where
      by : (o : Option Turn) → turn_in run answers goals decided ≡ o → option_and_then decided_at o ≡ None
          → settled run answers decided goals ≡ decided
      by None over waits = settled_over run answers goals decided over
      by (Some turn) next waits = settled_waits run answers goals decided (record { turn = turn; is_next = next; gives = waits })

-- ---- one step

-- what is kept with what is decided next, if something is
module _ (requests : KeptRequests) (errands : KeptErrands) (old new : KeptClaims) (same : new.run ≡ old.run)
    (decided : new.decided ≡ cons_option (next_decided requests errands old) old.decided) where
  step_by : (o : Option Decided) → next_decided requests errands old ≡ o → new.decided ≡ cons_option o old.decided
  step_by o next = decided ∙ ap (λ (it : Option Decided). cons_option it old.decided) next

  pub step_settled : all_settled requests errands new ≡ all_settled requests errands old
  step_settled = by (next_decided requests errands old) refl
    where
      over : (ones : List Decided) → new.decided ≡ ones
          → all_settled requests errands new ≡ settled old.run errands.tickets.answers ones requests.goals
      over ones is = λ i. settled (same i) errands.tickets.answers (is i) requests.goals

      by : (o : Option Decided) → next_decided requests errands old ≡ o → all_settled requests errands new ≡ all_settled requests errands old
      by None next = over old.decided (step_by None next)
      by (Some one) next =
          over (one ∷ old.decided) (step_by (Some one) next)
          ∙ sym (next_settled old.run errands.tickets.answers requests.goals old.decided one next)

  pub step_more : (base : List Decided) → Extends base old.decided → Extends base new.decided
  step_more base more = by (next_decided requests errands old) refl
    where
      by : (o : Option Decided) → next_decided requests errands old ≡ o → Extends base new.decided
      by None next = (more.0, step_by None next ∙ more.1)
      by (Some one) next = (one ∷ more.0, step_by (Some one) next ∙ ap (λ (ones : List Decided). one ∷ ones) more.1)

  -- where one goal more is decided, fewer are left
  pub step_nearer : is_some (next_decided requests errands old) ≡ true
      → length requests.goals - length new.decided < length requests.goals - length old.decided
  step_nearer there = by (next_decided requests errands old) refl there
    where
      by : (o : Option Decided) → next_decided requests errands old ≡ o → is_some o ≡ true
          → length requests.goals - length new.decided < length requests.goals - length old.decided
      by None next is = absurd (let e : false ≡ true = is in cc)
      by (Some one) next is =
          let long : length new.decided ≡ suc (length old.decided) = ap length (step_by (Some one) next) in
          let low : length old.decided < length requests.goals =
          next_within old.run errands.tickets.answers requests.goals old.decided one next in
          omega arith

  -- where none is, all is settled
  pub step_over : is_some (next_decided requests errands old) ≡ false → new.decided ≡ all_settled requests errands old
  step_over none = by (next_decided requests errands old) refl none
    where
      by : (o : Option Decided) → next_decided requests errands old ≡ o → is_some o ≡ false → new.decided ≡ all_settled requests errands old
      by None next is = step_by None next ∙ sym (none_next old.run errands.tickets.answers requests.goals old.decided next)
      by (Some one) next is = absurd (let e : true ≡ false = is in cc)
