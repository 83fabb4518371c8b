-- The laws that the chain of a row is what refers to it, directly or through others, and no more.
use Rattle.std.specs.Prelude.{◌≡◌, ◌⊎◌, ◌<◌, ℕ, Bool, true, List, length}
use Rattle.pl_state.specs.Chain.{chain_of, refers_to}
use Rattle.pl_state.specs.declared.entry.Entry.{Entry}
use Rattle.pl_lemmas.specs.Words.{has_number}

-- what refers to the row, or to one of its chain, is in the chain
abbrev pub ChainClosed : Type 0
ChainClosed = (rows : List Entry) (at later earlier : ℕ) → refers_to rows later earlier ≡ true → later < length rows
    → (earlier ≡ at) ⊎ (has_number (chain_of rows at) earlier ≡ true) → has_number (chain_of rows at) later ≡ true

-- a property of rows is handed on where what refers to the row has it, and what refers to one that has it
pub record IsHandedOn (rows : List Entry) (at : ℕ) (property : ℕ → Bool) : Type 0 where
  pub direct : (later : ℕ) → refers_to rows later at ≡ true → property later ≡ true
  pub through : (later earlier : ℕ) → refers_to rows later earlier ≡ true → property earlier ≡ true → property later ≡ true

-- the chain has nothing else: whatever is so handed on, each row of the chain has
abbrev pub ChainLeast : Type 0
ChainLeast = (rows : List Entry) (at : ℕ) (property : ℕ → Bool) → IsHandedOn rows at property
    → (row : ℕ) → has_number (chain_of rows at) row ≡ true → property row ≡ true
