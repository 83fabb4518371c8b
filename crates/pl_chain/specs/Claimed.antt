-- Which row of a chain refuses it.
use Rattle.std.specs.Prelude.{◌≡◌, ◌==◌, ℕ, Bool, option_map, Option, Some, List}
use Rattle.std.specs.BTreeSet.{BTreeSet}
use Rattle.std.specs.List.{list_any}
use Rattle.std.specs.Ordering.{is_eq, nat_cmp}
use Rattle.pl_state.specs.Chain.{chain_of, first_protected, rows_at}
use Rattle.pl_state.specs.declared.entry.Entry.{Entry}
use Rattle.pl_chain.specs.declared.fault.ChainFault.{ChainFault}
use Rattle.pl_chain.specs.declared.fault.ChainFault.TheVariants.{Protected, OutOfMemory}

-- whether a number stands in a list
abbrev pub is_in : List ℕ → ℕ → Bool
is_in rows number = list_any (λ row. row == number) rows

-- whether a set has a number
abbrev pub has_number : BTreeSet ℕ → ℕ → Bool
has_number set number = list_any (λ key. is_eq (nat_cmp number key)) set.keys

-- the first row of a row's chain that is protected and goes along
abbrev pub protected_of : List Entry → List ℕ → ℕ → Option Entry
protected_of entries claimed at = first_protected (is_in claimed) (rows_at entries (chain_of entries at))

-- an answer tells the URN of that row, or that memory was wanting
abbrev pub TellsProtected : List Entry → List ℕ → ℕ → ChainFault → Type 0
TellsProtected entries claimed at (Protected urn) = option_map (λ row. row.urn) (protected_of entries claimed at) ≡ Some urn
TellsProtected entries claimed at OutOfMemory = Unit {0}
