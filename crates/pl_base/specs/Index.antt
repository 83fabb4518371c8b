-- Rows by their URNs, and by URN and id.
use Rattle.std.specs.Prelude.{◌≡◌, ℕ, Option, List, String, option_and_then}
use Rattle.std.specs.Borrow.{Bor}
use Rattle.std.specs.BTreeMap.{BTreeMap, get_by, get_by_text}
use Rattle.std.specs.Cmp.Lexicographic.{slice_cmp}
use Rattle.std.specs.Ordering.{nat_cmp, ordering_then}
use Rattle.pl_reference.specs.declared.reference.ProviderRef.{ProviderRef}
use Rattle.pl_refresh.specs.Parents.{place_in}
use Rattle.pl_state.specs.Chain.{last_place}
use Rattle.pl_state.specs.References.{has_urn, is_provider}
use Rattle.pl_state.specs.declared.entry.Entry.{Entry}
use Rattle.pl_base.specs.Keeper.{keeper_in}

-- what is kept of a URN and an id
abbrev pub thing_in : BTreeMap (Bor (List ℕ) × Bor (List ℕ)) ℕ → List ℕ → List ℕ → Option ℕ
thing_in things urn id =
    get_by (λ key. ordering_then (slice_cmp nat_cmp urn key.0.now) (slice_cmp nat_cmp id key.1.now)) things

-- what is kept of a reference's URN and id, if there is a reference
abbrev pub provider_in : BTreeMap (Bor (List ℕ) × Bor (List ℕ)) ℕ → Option ProviderRef → Option ℕ
provider_in things reference = option_and_then (λ named. thing_in things named.urn named.id) reference

-- under each URN stands the first row that keeps it
abbrev pub LeadsToKeepers : {Y : Type 0} → BTreeMap (String Y) ℕ → List Entry → Type 0
LeadsToKeepers keepers rows = (urn : List ℕ) → get_by_text keepers urn ≡ keeper_in rows urn

-- under each URN and id stands the last row that has them
abbrev pub LeadsToThings : BTreeMap (Bor (List ℕ) × Bor (List ℕ)) ℕ → List Entry → Type 0
LeadsToThings things rows = (reference : ProviderRef) →
    thing_in things reference.urn reference.id ≡ last_place (is_provider reference) rows

-- under each URN stands the last row that has it
abbrev pub LeadsToRows : BTreeMap (Bor (List ℕ)) ℕ → List Entry → Type 0
LeadsToRows places rows = (urn : List ℕ) → place_in places urn ≡ last_place (has_urn urn) rows
