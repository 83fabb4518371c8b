use Rattle.std.proofs.Common.{reverse}
use Rattle.std.specs.Option.{option_map}
use Rattle.pl_refresh.specs.Refreshed.{is_there, nearest}
use Rattle.pl_refresh.proofs.Ancestors.{Climbing, rows_to}
use Rattle.pl_refresh.proofs.ancestry.climbed.Given as goal

-- the nearest one is that of the URN that is looked for, among the rows up to its last one
abbrev pub invariant-loop-place : goal.invariant-loop-place
invariant-loop-place l =
    Climbing (is_there l.standing) l.rows (option_map (λ urn. urn.now) l.urn) l.place
    (nearest (is_there l.standing) (reverse l.rows) (option_map (λ urn. urn.now) l.fn.urn))

abbrev pub decreases-loop-place : goal.decreases-loop-place
decreases-loop-place l = rows_to l.place
