-- The list of claimed rows tells which row of a chain is protected and goes along.
use Rattle.std.proofs.Common.{◌≡◌, ◌<◌, ℕ, List, length, Option, Some, option_map, sym, ap, ◌∙◌}
use Rattle.pl_chain.specs.Claimed.{TellsProtected, is_in, protected_of}
use Rattle.pl_chain.specs.declared.fault.ChainFault.{ChainFault}
use Rattle.pl_chain.specs.declared.fault.ChainFault.TheVariants.{Protected, OutOfMemory}
use Rattle.pl_state.specs.Chain.{chain_of, first_protected, rows_at}
use Rattle.pl_state.specs.declared.entry.Entry.{Entry}
use Rattle.pl_model.specs.Claims.{chain_of_claim}
use Rattle.pl_model.specs.Decisions.{claims_at}
use Rattle.pl_model.specs.Run.{rows_of}
use Rattle.pl_turns.specs.Chained.{TellsProtectedAt, protected_at}
use Rattle.pl_turns.specs.Seen.{seen_turn}
use Rattle.pl_turns.specs.declared.turn.Turn.{Turn}
use Rattle.pl_turns.proofs.Chains.{protected_same}

module _ (turn : Turn) (entries : List Entry) (claimed : List ℕ) (row : ℕ) (same : entries ≡ rows_of turn.claims.now.run)
    (claim : turn.claim ≡ Some row)
    (told : (k : ℕ) → k < length (rows_of turn.claims.now.run) → is_in claimed k ≡ claims_at (seen_turn turn) k) where
  pub protected_is : protected_of entries claimed row ≡ protected_at (seen_turn turn)
  protected_is =
      ap (λ (rows : List Entry). protected_of rows claimed row) same
      ∙ protected_same (is_in claimed) (claims_at (seen_turn turn)) (rows_of turn.claims.now.run) told (chain_of (rows_of turn.claims.now.run) row)
      ∙ ap (λ (o : Option ℕ). first_protected (claims_at (seen_turn turn)) (rows_at (rows_of turn.claims.now.run) (chain_of_claim turn.claims.now.run o)))
      (sym claim)

  pub tells_protected : (fault : ChainFault) → TellsProtected entries claimed row fault → TellsProtectedAt (seen_turn turn) fault
  tells_protected (Protected urn) says = ap (option_map (λ (row : Entry). row.urn)) (sym protected_is) ∙ says
  tells_protected OutOfMemory says = tt
