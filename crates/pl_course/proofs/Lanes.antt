-- An operation that is due on a lane is sent to one that there is, or to the next one.
use Rattle.std.proofs.Common.{◌≡◌, ℕ, ◌<◌, ◌≤◌, true, not, ◌&&◌, ◌||◌, List, Some, inl, inr, ◌⊎◌, arith}
use Rattle.pl_lemmas.proofs.Numbers.{equal_numbers}
use Rattle.pl_lemmas.proofs.Options.{passing}
use Rattle.pl_lemmas.proofs.Truth.{and_left, and_right}
use Rattle.pl_events.specs.declared.event.Event.{Event}
use Rattle.pl_events.specs.declared.operation.Op.{Op}
use Rattle.pl_events.specs.declared.operation.Op.TheVariants as op
use Rattle.pl_events.specs.declared.operation.Source.{Source}
use Rattle.pl_model.specs.Due.{is_checked_lane, is_lane_of, is_next_lane, is_ready_on, is_wanted_op, source_of_op, wants_lane}
use Rattle.pl_model.specs.Known.{Known, has_problem}
use Rattle.pl_model.specs.Tickets.{is_free, is_source, lane_count, lane_source}
use Rattle.pl_model_stays.proofs.Operations.Lanes.{checked_source, either_true, on_counted, source-begun, source_is}

source_low : (history : List Event) (lane : ℕ) (wanted : Source) → lane_source history lane ≡ Some wanted → lane ≤ lane_count history
source_low history lane wanted is =
    let found = source-begun history lane wanted is in
    let below : lane < lane_count history = on_counted history lane found.0 found.1 in
    omega arith

next_low : (known : Known) (lane : ℕ) → is_next_lane known lane ≡ true → lane ≤ lane_count known.history
next_low known lane is =
    let same : lane ≡ lane_count known.history = equal_numbers lane (lane_count known.history) is in omega arith

lane_low : (known : Known) (about : Op) (lane : ℕ)
    → (not (has_problem known) && is_wanted_op known about && is_lane_of known about lane) ≡ true → lane ≤ lane_count known.history
lane_low known about lane ready =
    let found = passing (λ wanted. is_source (lane_source known.history lane) wanted) (source_of_op known about)
    (and_left _ (is_free known.history lane)
    (and_right (not (has_problem known) && is_wanted_op known about) (is_lane_of known about lane) ready)) in
    source_low known.history lane found.0 (source_is (lane_source known.history lane) found.0 found.2)

configure_low : (known : Known) (provider : Source) (lane : ℕ)
    → (is_checked_lane known provider lane ≡ true) ⊎ ((wants_lane known provider && is_next_lane known lane) ≡ true)
    → lane ≤ lane_count known.history
configure_low known provider lane (inl h) = source_low known.history lane provider (checked_source known provider lane h)
configure_low known provider lane (inr h) = next_low known lane (and_right (wants_lane known provider) (is_next_lane known lane) h)

pub due_low : (known : Known) (about : Op) (lane : ℕ) → is_ready_on known about lane ≡ true → lane ≤ lane_count known.history
due_low known (op.CheckConfig about) lane ready =
    next_low known lane (and_right (not (has_problem known) && is_wanted_op known (op.CheckConfig about)) (is_next_lane known lane) ready)
due_low known (op.Configure provider) lane ready =
    configure_low known provider lane
    (either_true (is_checked_lane known provider lane) (wants_lane known provider && is_next_lane known lane)
    (and_right (not (has_problem known)) (is_checked_lane known provider lane || (wants_lane known provider && is_next_lane known lane)) ready))
due_low known (op.Check about) lane ready = lane_low known (op.Check about) lane ready
due_low known (op.Diff about) lane ready = lane_low known (op.Diff about) lane ready
due_low known (op.Create about) lane ready = lane_low known (op.Create about) lane ready
due_low known (op.Update about) lane ready = lane_low known (op.Update about) lane ready
due_low known (op.Delete about) lane ready = lane_low known (op.Delete about) lane ready
due_low known (op.Read about) lane ready = lane_low known (op.Read about) lane ready
due_low known (op.Invoke n) lane ready = lane_low known (op.Invoke n) lane ready
