-- Lanes on which inputs were checked: none where no configuration is awaited.
use Rattle.std.proofs.Common.{◌≡◌, ◌∙◌, ℕ, Bool, true, false, not, ◌&&◌, cond, List, [], ◌∷◌, find, None, Some, refl, sym, ap}
use Rattle.std.specs.List.{range_with_len}
use Rattle.pl_lemmas.specs.Words.{some_passes}
use Rattle.pl_events.specs.declared.operation.Op.TheVariants as op
use Rattle.pl_events.specs.declared.operation.Source.TheVariants as source
use Rattle.pl_events.specs.declared.operation.Subject.TheVariants as subject
use Rattle.pl_model.specs.Decisions.{checked_in}
use Rattle.pl_model.specs.Due.{is_checked_lane, may_configure}
use Rattle.pl_model.specs.Known.{Known}
use Rattle.pl_model.specs.Tickets.{is_lost, is_out, is_source, lane_count, lane_source, reply_to, was_begun}
use Rattle.pl_lanes.specs.Lanes.{awaits_lane, checked_there}

none_there : (p : ℕ → Bool) → ((n : ℕ) → p n ≡ false) → (ns : List ℕ) → None ≡ find p ns
none_there p never [] = refl
none_there p never (n ∷ ns) = none_there p never ns ∙ sym (ap (λ (b : Bool). cond b (Some n) (find p ns)) (never n))

pub row_unchecked : (known : Known) (row : ℕ) → None ≡ checked_there known (source.Row row)
row_unchecked known row = none_there (is_checked_lane known (source.Row row)) (λ lane. refl) (range_with_len 0 (lane_count known.history))

pub none_awaited : (known : Known) (number : ℕ) → awaits_lane known number ≡ false → None ≡ checked_there known (source.Goal number)
none_awaited known number never =
    none_there (is_checked_lane known (source.Goal number))
    (λ lane. by (some_passes (may_configure known) (checked_in (reply_to known.answers (op.CheckConfig (subject.Goal number)))))
    (is_source (lane_source known.history lane) (source.Goal number))
    (was_begun known.history (op.Configure (source.Goal number)))
    (not (is_out known.history lane)) (not (is_lost known.history lane)) never)
    (range_with_len 0 (lane_count known.history))
  where
    by : (a s b c d : Bool) → (a && not b) ≡ false → ((((a && s) && not b) && c) && d) ≡ false
    by true true true c d h = refl
    by true false b c d h = refl
    by true s false c d h = absurd (let e : true ≡ false = h in cc)
    by false s b c d h = refl
