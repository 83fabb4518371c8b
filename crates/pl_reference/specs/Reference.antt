-- Provider references: `<URN of a provider>::<id>`, cut at the last `::`.
use Rattle.std.specs.Prelude.{ℕ, Bool, not, ◌&&◌, if◌then◌else◌, is_none, Option, None, Some, List, [], ◌∷◌, ◌++◌}
use Rattle.pl_reference.specs.declared.reference.ProviderRef.{ProviderRef}
use Rattle.pl_urn.specs.Cut.{cut, has_cut, rest_of}
use Rattle.pl_urn.specs.Grammar.{is_empty, is_provider_type, own_type_of, urn_fault}

-- what stands before the last `::`, or nothing where there is none
unfoldable pub before_last_cut : List ℕ → List ℕ
before_last_cut [] = []
before_last_cut (b ∷ bs) = if has_cut bs then b ∷ before_last_cut bs else []

-- what stands after the last `::`
unfoldable pub after_last_cut : List ℕ → List ℕ
after_last_cut [] = []
after_last_cut (b ∷ bs) = if has_cut bs then after_last_cut bs else rest_of bs

-- whether a text is a URN whose own type is that of a provider
unfoldable pub is_provider_urn : List ℕ → Bool
is_provider_urn text = is_none (urn_fault text) && is_provider_type (own_type_of text)

-- whether a text is a provider reference
unfoldable pub is_reference : List ℕ → Bool
is_reference text = has_cut text && (not (is_empty (after_last_cut text)) && is_provider_urn (before_last_cut text))

-- the URN and the id of a provider reference
unfoldable pub reference_in : List ℕ → Option (List ℕ × List ℕ)
reference_in text = if is_reference text then Some (before_last_cut text, after_last_cut text) else None

-- the text of a provider reference
abbrev pub reference_text : ProviderRef → List ℕ
reference_text reference = reference.urn ++ (cut ++ reference.id)
