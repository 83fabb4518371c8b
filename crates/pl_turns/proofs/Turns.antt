-- What is read of a turn is what the definitions say of it.
use Rattle.std.proofs.Common.{◌≡◌, ◌<◌, ◌≤◌, ℕ, Bool, true, false, not, nat_lt, if◌then◌else◌, length, Some, None, option_map, sym, ap, ◌∙◌, arith}
use Rattle.std.proofs.lemmas.Bool.Decides.{nat_tests}
use Rattle.pl_events.specs.declared.operation.Op.TheVariants as op
use Rattle.pl_events.specs.declared.operation.Subject.TheVariants as subject
use Rattle.pl_lemmas.specs.Words.{numbered}
use Rattle.pl_lemmas.proofs.Numbers.{less_true}
use Rattle.pl_state.specs.Kinds.{is_provider_goal}
use Rattle.pl_model.specs.Decisions as spec
use Rattle.pl_model.specs.Tickets.{reply_to}
use Rattle.pl_turns.specs.Seen.{seen_turn}
use Rattle.pl_turns.specs.declared.turn.Turn.{Turn}
use Rattle.pl_turns.proofs.Goals.{before_length, numbered_before, numbered_within}

module _ (turn : Turn) where
  goal_within : turn.number < length turn.requests.now.goals
  goal_within = numbered_within turn.requests.now.goals turn.number turn.goal.now turn.is_goal

  pub number_is : spec.number_at (seen_turn turn) ≡ turn.number
  number_is = before_length turn.requests.now.goals turn.number goal_within

  -- ---- earlier goals

  earlier_by : (k : ℕ) (less : Bool) → nat_lt k turn.number ≡ less
      → numbered (seen_turn turn).earlier k ≡ (if less then numbered turn.requests.now.goals k else None)
  earlier_by k less is =
      numbered_before turn.requests.now.goals turn.number k goal_within
      ∙ ap (λ (b : Bool). if b then numbered turn.requests.now.goals k else None) is

  pub earlier_there : (k : ℕ) → k < turn.number → numbered (seen_turn turn).earlier k ≡ numbered turn.requests.now.goals k
  earlier_there k less = earlier_by k true (less_true k turn.number less)

  pub earlier_none : (k : ℕ) → turn.number ≤ k → numbered (seen_turn turn).earlier k ≡ None
  earlier_none k most = earlier_by k false (let e : nat_lt k turn.number ≡ false = grind (arith, nat_tests) in e)

  -- ---- replies

  abbrev own : spec.Turn
  own = seen_turn turn

  pub checked_config : is_provider_goal turn.goal.now ≡ true
      → spec.checked_in (reply_to turn.errands.now.tickets.answers (op.CheckConfig (subject.Goal turn.number))) ≡ spec.checked_at own
  checked_config provides =
      ap (λ (n : ℕ). spec.checked_in (reply_to own.answers (op.CheckConfig (subject.Goal n)))) (sym number_is)
      ∙ sym (ap (λ (b : Bool). if b then spec.checked_in (reply_to own.answers (op.CheckConfig (subject.Goal (spec.number_at own))))
      else (if spec.needs_check own then spec.checked_in (reply_to own.answers (op.Check (subject.Goal (spec.number_at own))))
      else Some (spec.inputs_at own))) provides)

  pub checked_provided : is_provider_goal turn.goal.now ≡ false → spec.needs_check own ≡ true
      → spec.checked_in (reply_to turn.errands.now.tickets.answers (op.Check (subject.Goal turn.number))) ≡ spec.checked_at own
  checked_provided other needs =
      ap (λ (n : ℕ). spec.checked_in (reply_to own.answers (op.Check (subject.Goal n)))) (sym number_is)
      ∙ sym (ap (λ (b : Bool). if b then spec.checked_in (reply_to own.answers (op.CheckConfig (subject.Goal (spec.number_at own))))
      else (if spec.needs_check own then spec.checked_in (reply_to own.answers (op.Check (subject.Goal (spec.number_at own))))
      else Some (spec.inputs_at own))) other
      ∙ ap (λ (b : Bool). if b then spec.checked_in (reply_to own.answers (op.Check (subject.Goal (spec.number_at own))))
      else Some (spec.inputs_at own)) needs)

  pub diff_asked : spec.wants_diff own ≡ true → spec.is_provider_unknown own ≡ false
      → spec.diff_at own
      ≡ option_map Some (spec.diffed_in (reply_to turn.errands.now.tickets.answers (op.Diff (subject.Goal turn.number))))
  diff_asked wants known =
      ap (λ (b : Bool). if not b then Some None else (if spec.is_provider_unknown own then Some (Some spec.unknown_diff)
      else option_map Some (spec.diffed_in (reply_to own.answers (op.Diff (subject.Goal (spec.number_at own))))))) wants
      ∙ ap (λ (b : Bool). if b then Some (Some spec.unknown_diff)
      else option_map Some (spec.diffed_in (reply_to own.answers (op.Diff (subject.Goal (spec.number_at own)))))) known
      ∙ ap (λ (n : ℕ). option_map Some (spec.diffed_in (reply_to own.answers (op.Diff (subject.Goal n))))) number_is
