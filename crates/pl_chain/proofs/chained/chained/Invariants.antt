use Rattle.std.proofs.Common.{◌≡◌}
use Rattle.pl_state.specs.Chain.{chain_among}
use Rattle.pl_chain.proofs.Stands.{Stands}
use Rattle.pl_chain.proofs.chained.chained.Given as goal

abbrev pub invariant-loop-place : goal.invariant-loop-place
invariant-loop-place l = record {
  listed : l.chain ≡ chain_among l.rows l.at l.place;
  stands : Stands l.rows l.at l.place l.chain l.seen;
}
