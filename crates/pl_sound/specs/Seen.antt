-- The index of the rows before a place.
use Rattle.std.specs.Prelude.{◌≡◌, ℕ, Bool, not, ◌||◌, List}
use Rattle.std.specs.Borrow.{Bor}
use Rattle.std.specs.BTreeSet.{BTreeSet}
use Rattle.std.specs.Cmp.Lexicographic.{slice_cmp}
use Rattle.std.specs.List.{list_any}
use Rattle.std.specs.Ordering.{is_eq, nat_cmp, ordering_then}
use Rattle.pl_state.specs.declared.entry.Entry.{Entry}
use Rattle.pl_state.specs.declared.fault.Missing.{Missing}
use Rattle.pl_state.specs.declared.fault.Missing.TheVariants.{Twice, Parent, Provider, Dependency, DeletedWith}
use Rattle.pl_reference.specs.declared.reference.ProviderRef.{ProviderRef}
use Rattle.pl_sound.specs.declared.seen.Seen.{Seen}
use Rattle.pl_state.specs.References.{has_urn, is_provider, keeps_urn}

-- whether a set has a text
abbrev pub has_text : BTreeSet (Bor (List ℕ)) → List ℕ → Bool
has_text texts text = list_any (λ key. is_eq (slice_cmp nat_cmp text key.now)) texts.keys

-- whether a set has a pair of texts
abbrev pub has_pair : BTreeSet (Bor (List ℕ) × Bor (List ℕ)) → List ℕ → List ℕ → Bool
has_pair pairs first second =
    list_any (λ key. is_eq (ordering_then (slice_cmp nat_cmp first key.0.now) (slice_cmp nat_cmp second key.1.now))) pairs.keys

-- whether the index gives what is wanted
abbrev pub gives : Seen → Missing → Bool
gives seen (Twice urn) = not (has_text seen.kept urn)
gives seen (Parent urn) = has_text seen.urns urn
gives seen (Provider reference) = has_pair seen.things reference.urn reference.id
gives seen (Dependency urn) = has_text seen.urns urn
gives seen (DeletedWith urn) = has_text seen.urns urn

-- an index has one row more than it had
pub record HasOneMore (old new : Seen) (row : Entry) : Type 0 where
  pub urns : (urn : List ℕ) → has_text new.urns urn ≡ (has_urn urn row || has_text old.urns urn)
  pub kept : (urn : List ℕ) → has_text new.kept urn ≡ (keeps_urn urn row || has_text old.kept urn)
  pub things : (reference : ProviderRef) → has_pair new.things reference.urn reference.id
      ≡ (is_provider reference row || has_pair old.things reference.urn reference.id)
