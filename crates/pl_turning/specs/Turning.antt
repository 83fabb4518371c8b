-- How an alias turns a URN into another one, in an entry's own URN and in its references.
use Rattle.std.specs.Prelude.{ℕ, Bool, ◌||◌, if◌then◌else◌, map, option_map, List, bytes_eq}
use Rattle.std.specs.List.{list_any}
use Rattle.pl_reference.specs.declared.reference.ProviderRef.{ProviderRef}
use Rattle.pl_lemmas.specs.Words.{some_passes}
use Rattle.pl_state.specs.declared.entry.Entry.{Entry}

-- a URN that becomes another one
pub record Turning : Type 0 where
  pub old : List ℕ
  pub new : List ℕ

abbrev pub turned : Turning → List ℕ → List ℕ
turned turning urn = if bytes_eq urn turning.old then turning.new else urn

abbrev pub turned_reference : Turning → ProviderRef → ProviderRef
turned_reference turning reference = record reference { urn = turned turning reference.urn }

-- URNs by their properties, each turned
abbrev pub turned_pairs : Turning → List (List ℕ × List (List ℕ)) → List (List ℕ × List (List ℕ))
turned_pairs turning pairs = map (λ pair. (pair.0, map (turned turning) pair.1)) pairs

-- an entry with a URN turned, its own and those of its references
abbrev pub turned_entry : Entry → Turning → Entry
turned_entry entry turning = record entry {
  urn = turned turning entry.urn;
  parent = option_map (turned turning) entry.parent;
  provider = option_map (turned_reference turning) entry.provider;
  dependencies = map (turned turning) entry.dependencies;
  property_dependencies = turned_pairs turning entry.property_dependencies;
  deleted_with = option_map (turned turning) entry.deleted_with;
}

-- whether a URN is this one
abbrev pub is_urn : List ℕ → List ℕ → Bool
is_urn urn other = bytes_eq other urn

-- whether a URN is an entry's own or that of one of its references
abbrev pub mentions : List ℕ → Entry → Bool
mentions urn entry =
    is_urn urn entry.urn
    || some_passes (is_urn urn) entry.parent
    || some_passes (λ reference. is_urn urn reference.urn) entry.provider
    || list_any (is_urn urn) entry.dependencies
    || list_any (λ pair. list_any (is_urn urn) pair.1) entry.property_dependencies
    || some_passes (is_urn urn) entry.deleted_with
