-- The ids of recorded providers tell which provider references are met.
use Rattle.std.proofs.Common.{◌≡◌, ℕ, Bool, true, false, ◌&&◌, List, Option, Some, None, is_none, if◌then◌else◌, refl, sym, ap, subst, ◌∙◌}
use Rattle.std.specs.Str.{bytes_eq}
use Rattle.std.proofs.lemmas.Option.{none-some, same_Some}
use Rattle.pl_lemmas.specs.Words.{numbered, only_if, some_passes}
use Rattle.pl_lemmas.proofs.Lists.{same_bytes}
use Rattle.pl_lemmas.proofs.Truth.{and_right}
use Rattle.pl_urn.specs.Grammar.{is_provider_type, own_type_of, urn_fault}
use Rattle.pl_reference.specs.Reference.{after_last_cut, before_last_cut, is_provider_urn, is_reference, reference_in}
use Rattle.pl_state.specs.Kinds.{is_of_provider, is_provider_goal}
use Rattle.pl_model.specs.Claims.{goal_number}
use Rattle.pl_model.specs.Known.{Known, is_recorded, provider_id}
use Rattle.pl_model.specs.Requests.{has_id, is_met, is_met_reference}
use Rattle.pl_requests.specs.Ids.{TellsIds}
use Rattle.pl_requests.specs.Reading.{has_id_at, is_met_by, is_met_text}
use Rattle.pl_told.proofs.Places.{where_passes}

-- ---- a reference names a provider

provider_urn_is : (text : List ℕ) → is_provider_urn text ≡ true → is_of_provider text ≡ true
unfolding is_provider_urn
provider_urn_is text is = and_right (is_none (urn_fault text)) (is_provider_type (own_type_of text)) is

reference_is : (text : List ℕ) → is_reference text ≡ true → is_provider_urn (before_last_cut text) ≡ true
unfolding is_reference
reference_is text is = and_right _ _ (and_right _ _ is)

named_is : (text : List ℕ) (named : List ℕ × List ℕ) (is : Bool) → is_reference text ≡ is
    → (if is then Some (before_last_cut text, after_last_cut text) else None) ≡ Some named → is_of_provider named.0 ≡ true
named_is text named true is read =
    let same : before_last_cut text ≡ named.0 = ap (λ (pair : List ℕ × List ℕ). pair.0) (same_Some (before_last_cut text, after_last_cut text) named read) in
    subst (λ (urn : List ℕ). is_of_provider urn ≡ true) same (provider_urn_is (before_last_cut text) (reference_is text is))
named_is text named false is read = absurd (none-some named read)

pub names_provider : (text : List ℕ) (named : List ℕ × List ℕ) → reference_in text ≡ Some named → is_of_provider named.0 ≡ true
unfolding reference_in
names_provider text named read = named_is text named (is_reference text) refl read

-- ---- an id stands at the number of a provider

passes_only : (test : List ℕ → Bool) (recorded provides : Bool) (id : Option (List ℕ)) → provides ≡ true
    → some_passes test (only_if (recorded && provides) id) ≡ (recorded && some_passes test id)
passes_only test true true id is = refl
passes_only test false provides id is = refl
passes_only test true false id is = absurd cc

module _ (ids : List (Option (List ℕ))) (known : Known) (tells : TellsIds ids known) where
  id_is : (urn id : List ℕ) (number : ℕ) → is_of_provider urn ≡ true → goal_number known.goals urn ≡ Some number
      → has_id_at ids id number ≡ has_id known id number
  id_is urn id number provides found =
      let of_provider : some_passes is_provider_goal (numbered known.goals number) ≡ true =
      where_passes is_provider_goal (λ goal. bytes_eq goal.urn urn)
      (λ goal same. subst (λ (text : List ℕ). is_of_provider text ≡ true) (sym (same_bytes goal.urn urn same)) provides)
      known.goals number found in
      ap (some_passes (λ own. bytes_eq own id)) (tells number)
      ∙ passes_only (λ own. bytes_eq own id) (is_recorded known number) (some_passes is_provider_goal (numbered known.goals number))
      (provider_id known number) of_provider

  found_is : (urn id : List ℕ) (number : Option ℕ) → is_of_provider urn ≡ true → goal_number known.goals urn ≡ number
      → some_passes (has_id_at ids id) number ≡ some_passes (has_id known id) number
  found_is urn id None provides found = refl
  found_is urn id (Some number) provides found = id_is urn id number provides found

  read_is : (text : List ℕ) (named : Option (List ℕ × List ℕ)) → reference_in text ≡ named
      → some_passes (is_met_by known.goals ids) named ≡ some_passes (is_met known) named
  read_is text None read = refl
  read_is text (Some named) read =
      found_is named.0 named.1 (goal_number known.goals named.0) (names_provider text named read) refl

  pub met_is : (text : List ℕ) → is_met_text known.goals ids text ≡ is_met_reference known text
  met_is text = read_is text (reference_in text) refl
