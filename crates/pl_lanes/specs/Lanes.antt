-- The lane on which a provider is to be configured.
use Rattle.std.specs.Prelude.{ℕ, Bool, not, ◌&&◌, Option, find}
use Rattle.std.specs.List.{range_with_len}
use Rattle.pl_lemmas.specs.Words.{some_passes}
use Rattle.pl_events.specs.declared.operation.Op.TheVariants as op
use Rattle.pl_events.specs.declared.operation.Source.{Source}
use Rattle.pl_events.specs.declared.operation.Source.TheVariants as source
use Rattle.pl_events.specs.declared.operation.Subject.TheVariants as subject
use Rattle.pl_model.specs.Decisions.{checked_in}
use Rattle.pl_model.specs.Due.{is_checked_lane, may_configure}
use Rattle.pl_model.specs.Known.{Known}
use Rattle.pl_model.specs.Tickets.{lane_count, reply_to, was_begun}

-- whether the inputs of the provider that a goal is were checked and it is to be configured, which was not begun
abbrev pub awaits_lane : Known → ℕ → Bool
awaits_lane known number =
    some_passes (may_configure known) (checked_in (reply_to known.answers (op.CheckConfig (subject.Goal number))))
    && not (was_begun known.history (op.Configure (source.Goal number)))

-- the lane on which a provider's inputs were checked, where it is to be configured there
abbrev pub checked_there : Known → Source → Option ℕ
checked_there known provider = find (is_checked_lane known provider) (range_with_len 0 (lane_count known.history))
