-- The names and ids that the engine makes by itself.
use Rattle.std.specs.Prelude.{ℕ, ◌||◌, ◌==◌, if◌then◌else◌, List, ◌++◌, Option, None, Some, map}
use Rattle.std.specs.Int.{to_be_bytes, w128}
use Rattle.uuid.specs.Parts.{with_variant, with_version}
use Rattle.uuid.specs.Text.{hyphenated_text, lower}
use Rattle.uuid.specs.declared.Variant.TheVariants.{RFC4122}
use Rattle.uuid.specs.declared.Version.TheVariants.{Random}
use Rattle.pl_state.specs.Kinds.{default_prefix, default_text}
use Rattle.pl_urn.specs.Grammar.{child_text, provider_prefix}

-- a byte of a version as it stands in a name: `_` for each `.`, `-` and `+`
abbrev pub name_byte : ℕ → ℕ
name_byte byte = if byte == 46 || byte == 45 || byte == 43 then 95 else byte

-- the name of the default provider of this version
unfoldable pub default_name : Option (List ℕ) → List ℕ
default_name None = default_text
default_name (Some version) = default_prefix ++ map name_byte version

-- the type of the provider of a package
abbrev pub provider_type : List ℕ → List ℕ
provider_type provided = provider_prefix ++ provided

-- the URN of the default provider of a package
unfoldable pub default_provider_urn : List ℕ → List ℕ → List ℕ → Option (List ℕ) → List ℕ
default_provider_urn stack project provided version =
    child_text None stack project (provider_type provided) (default_name version)

-- the id that a drawn number of 128 bits gives: a UUID of version 4, hyphenated, in lower case
unfoldable pub id_text : ℕ → List ℕ
id_text drawn = hyphenated_text lower (with_version (with_variant (to_be_bytes w128 drawn) RFC4122) Random)
