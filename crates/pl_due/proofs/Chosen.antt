-- What is told to do is what is chosen.
use Rattle.std.proofs.Common.{◌≡◌, ◌∙◌, ℕ, zero, suc, ◌+◌, ◌<◌, ◌==◌, Bool, true, false, not, ◌&&◌, ◌||◌, if◌then◌else◌, cond, List, find, Option, Some, None, is_some, option_and_then, refl, sym, ap, ap₂, subst, arith}
use Rattle.std.proofs.lemmas.Bool.Decides.{nat_tests}
use Rattle.std.specs.List.{range_with_len}
use Rattle.pl_lemmas.proofs.Numbers.{range_find_none}
use Rattle.pl_lemmas.proofs.Truth.{and_left, and_right}
use Rattle.pl_events.specs.Lanes.{LanesTold}
use Rattle.pl_events.specs.declared.event.Event.{Event}
use Rattle.pl_events.specs.declared.operation.Op.{Op}
use Rattle.pl_events.specs.declared.operation.Op.TheVariants as op
use Rattle.pl_events.specs.declared.operation.Source.{Source}
use Rattle.pl_events.specs.declared.operation.Subject.{Subject}
use Rattle.pl_model.specs.Choice.{TellsLanes, can_be_taken, choice_of, chosen, first_taken, lane_there, nothing, sent, too_many}
use Rattle.pl_model.specs.Due.{is_checked_lane, is_due, is_due_on, is_wanted_op, source_of_op, wants_lane, works_of}
use Rattle.pl_model.specs.Known.{Known, has_problem}
use Rattle.pl_model.specs.Tickets.{lane_count}
use Rattle.pl_model.specs.declared.work.Work.{Work}
use Rattle.pl_model.specs.declared.work.Work.TheVariants as work
use Rattle.pl_model_stays.specs.Choosing.{uses_lane}
use Rattle.pl_model_stays.proofs.Work.Choosing.{table-tells}
use Rattle.pl_due.specs.Chosen.{choice_now}
use Rattle.pl_due.specs.Now.{checked_there, due_now, lane_now, may_now, passes_now, sends_now, taken_now, too_many_now, uses_now}
use Rattle.pl_due.specs.Seen.{Tells, known_after, known_in}
use Rattle.pl_due.specs.declared.seen.Seen.{Seen}
use Rattle.pl_due.proofs.Over.{too_many_is}
use Rattle.pl_due.proofs.Finding.{found_passes, found_same}
use Rattle.pl_due.proofs.Told.{checked_told, due_is, source_told}

-- tests that agree on a range find the same there
range_same : (p q : ℕ → Bool) (a n : ℕ) → ((k : ℕ) → k < n → p (a + k) ≡ q (a + k)) → find p (range_with_len a n) ≡ find q (range_with_len a n)
range_same p q a zero same = refl
range_same p q a (suc n) same =
    ap₂ (λ (b : Bool) (o : Option ℕ). cond b (Some a) o)
    (let e : a + 0 ≡ a = omega arith in subst (λ (k : ℕ). p k ≡ q k) e (same 0 (omega arith)))
    (range_same p q (a + 1) n
    (λ k below. let e : a + (k + 1) ≡ a + 1 + k = omega arith in subst (λ (k : ℕ). p k ≡ q k) e (same (k + 1) (omega arith))))

other_lane : (n k : ℕ) → k < n → (k == n) ≡ false
other_lane n k below = grind (arith, nat_tests)

module _ (seen : Seen) (history : List Event) (tells : Tells seen history) (table : LanesTold) (lanes : TellsLanes table (known_after seen history)) where
  abbrev told : Known
  told = known_after seen history

  abbrev known : Known
  known = known_in seen

  -- ---- lanes

  -- a check of a provider's inputs starts a lane
  check_lane : (about : Subject) → lane_there told (op.CheckConfig about) ≡ None
  check_lane about =
      range_find_none (is_due_on told (op.CheckConfig about)) 0 (lane_count history)
      (λ k below. ap (λ (b : Bool). ((not (has_problem told) && is_wanted_op told (op.CheckConfig about)) && b) && true)
      (other_lane (lane_count history) (0 + k) (let low : k < lane_count history = below in omega arith))
      ∙ by (not (has_problem told) && is_wanted_op told (op.CheckConfig about)))
    where
      by : (a : Bool) → ((a && false) && true) ≡ false
      by true = refl
      by false = refl

  -- a configuration goes to the lane on which the inputs were checked, or starts one
  config_lane : (provider : Source) → not (has_problem known) ≡ true → lane_there told (op.Configure provider) ≡ checked_there known provider
  config_lane provider free =
      range_same (is_due_on told (op.Configure provider)) (is_checked_lane told provider) 0 (lane_count history)
      (λ k below. at (0 + k) (let low : k < lane_count history = below in omega arith))
      ∙ (λ i. find (λ lane. checked_told seen history tells provider lane i) (range_with_len 0 (tells.reads.count i)))
    where
      by : (a w : Bool) → ((true && (a || (w && false))) && true) ≡ a
      by true w = refl
      by false true = refl
      by false false = refl

      at : (lane : ℕ) → lane < lane_count history → is_due_on told (op.Configure provider) lane ≡ is_checked_lane told provider lane
      at lane below =
          ap₂ (λ (g b : Bool). (g && (is_checked_lane told provider lane || (wants_lane told provider && b))) && true) free (other_lane (lane_count history) lane below)
          ∙ by (is_checked_lane told provider lane) (wants_lane told provider)

  -- another operation goes to the lane that the table has
  used_lane : (about : Op) → uses_lane about ≡ true → is_due told (work.Send about) ≡ true → uses_now seen table about ≡ true
      → lane_there told about ≡ option_and_then table.free (source_of_op known about)
  used_lane about uses due used = by (source_of_op known about) refl
    where
      no_source : (a b : Bool) → ((a && false) && b) ≡ true → false ≡ true
      no_source true b h = h
      no_source false b h = h

      by : (o : Option Source) → source_of_op known about ≡ o → lane_there told about ≡ option_and_then table.free o
      by None is =
          absurd (let e : false ≡ true = no_source (is_wanted_op known about) (not (passes_now seen (work.Send about)))
          (sym (ap (λ (o : Option Source). is_wanted_op known about && is_some (option_and_then table.free o)
          && not (passes_now seen (work.Send about))) is) ∙ used) in cc)
      by (Some wanted) is =
          table-tells told about wanted uses (source_told seen history tells about ∙ is) table lanes
          ∙ ap (λ (b : Bool). if b then table.free wanted else None) due

  lane_is : (about : Op) → is_due told (work.Send about) ≡ true → lane_there told about ≡ lane_now seen table about
  lane_is about due = by about due (sym (due_is seen history tells table lanes (work.Send about)) ∙ due)
    where
      by : (about : Op) → is_due told (work.Send about) ≡ true → (not (has_problem known) && sends_now seen table about) ≡ true
          → lane_there told about ≡ lane_now seen table about
      by (op.CheckConfig on) due now = check_lane on
      by (op.Configure provider) due now = config_lane provider (and_left (not (has_problem known)) _ now)
      by (op.Check on) due now = used_lane (op.Check on) refl due (and_right (not (has_problem known)) _ now)
      by (op.Diff on) due now = used_lane (op.Diff on) refl due (and_right (not (has_problem known)) _ now)
      by (op.Create on) due now = used_lane (op.Create on) refl due (and_right (not (has_problem known)) _ now)
      by (op.Update on) due now = used_lane (op.Update on) refl due (and_right (not (has_problem known)) _ now)
      by (op.Delete on) due now = used_lane (op.Delete on) refl due (and_right (not (has_problem known)) _ now)
      by (op.Read on) due now = used_lane (op.Read on) refl due (and_right (not (has_problem known)) _ now)
      by (op.Invoke n) due now = used_lane (op.Invoke n) refl due (and_right (not (has_problem known)) _ now)

  -- ---- the choice

  taken_is : first_taken table.half_home told ≡ taken_now seen table
  taken_is =
      found_same (λ one. can_be_taken table.half_home one && is_due told one)
      (λ one. can_be_taken table.half_home one && (may_now known one && due_now seen table one))
      (λ one. ap (λ (b : Bool). can_be_taken table.half_home one && b) (due_is seen history tells table lanes one)) (works_of known)

  taken_due : (one : Work) → Some one ≡ taken_now seen table → is_due told one ≡ true
  taken_due one found =
      and_right (can_be_taken table.half_home one) (is_due told one)
      (found_passes (λ one. can_be_taken table.half_home one && is_due told one) (works_of known) one (taken_is ∙ sym found))

  choice_is : (one : Work) → is_due told one ≡ true → choice_now seen table one ≡ choice_of told (Some one)
  choice_is (work.Post n) due = refl
  choice_is (work.Keep number) due = refl
  choice_is (work.Clear at) due = refl
  choice_is (work.Drop row) due = refl
  choice_is (work.Send about) due = ap (λ (lane : Option ℕ). sent about lane) (sym (lane_is about due))

  pub chosen_some : (one : Work) → Some one ≡ taken_now seen table → choice_now seen table one ≡ chosen table.half_home told
  chosen_some one found =
      choice_is one (taken_due one found)
      ∙ ap (λ (o : Option Work). choice_of told o) (found ∙ sym taken_is)

  pub chosen_none : None ≡ taken_now seen table → (if too_many_now seen table then too_many else nothing) ≡ chosen table.half_home told
  chosen_none none =
      ap (λ (b : Bool). if b then too_many else nothing) (sym (too_many_is seen history tells table lanes (sym none)))
      ∙ ap (λ (o : Option Work). choice_of told o) (none ∙ sym taken_is)
