-- What was decided since there were this many decisions.
use Rattle.std.specs.Prelude.{ℕ, ◌-◌, List, length, reverse, take}
use Rattle.pl_model.specs.Known.{Known}
use Rattle.pl_model.specs.declared.decided.Decided.{Decided}

-- in the order of the goals: `newly_decided` of pl_model, with the number of decisions before in place of what was
-- known before
abbrev pub decided_since : Known → ℕ → List Decided
decided_since known before = reverse (take (length known.decided - before) known.decided)
