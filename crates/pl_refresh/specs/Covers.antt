-- Which entries an index is of.
use Rattle.std.specs.Prelude.{◌≡◌, ℕ, List}
use Rattle.std.specs.List.{list_any}
use Rattle.pl_reference.specs.declared.reference.ProviderRef.{ProviderRef}
use Rattle.pl_sound.specs.declared.seen.Seen.{Seen}
use Rattle.pl_sound.specs.Seen.{has_pair, has_text}
use Rattle.pl_state.specs.References.{has_urn, is_provider}
use Rattle.pl_state.specs.declared.entry.Entry.{Entry}

-- an index has the URNs of these entries and no others, and the things of these entries and no others
pub record Covers (seen : Seen) (rows : List Entry) : Type 0 where
  pub urns : (urn : List ℕ) → has_text seen.urns urn ≡ list_any (has_urn urn) rows
  pub things : (reference : ProviderRef) → has_pair seen.things reference.urn reference.id ≡ list_any (is_provider reference) rows
