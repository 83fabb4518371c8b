-- The names in a value, and what it is filled with, one equation for each variant.
use Rattle.std.proofs.Common.{◌≡◌, ℕ, ◌-◌, Bool, List, map, Ok, refl, sym, ap, ◌∙◌}
use Rattle.std.proofs.lemmas.List.Folds.{flat_map-map}
use Rattle.pl_value.proofs.Levels.{map-map}
use Rattle.pl_value.specs.declared.value.Value.{Value}
use Rattle.pl_value.specs.declared.value.Value.TheOpen.{Value-F}
use Rattle.pl_value.specs.declared.value.Value.TheVariants as value
use Rattle.pl_value.specs.declared.value.Value.TheFolds.{fold-roll-Value}
use Rattle.pl_program_file.specs.Filled.{Filling, filled, filled_level, filled_members, filled_text, filled_values, in_order, inside, made_of, under}
use Rattle.pl_program_file.specs.Names.{Name, names_in, names_in_fields, names_in_values, names_level}
use Rattle.pl_program_file.specs.declared.filling.Place.{Place}
use Rattle.pl_program_file.specs.declared.known.Known.{Known}

-- ---- names

pub names_in-List : (values : List Value) → names_in (value.List values) ≡ names_in_values values
names_in-List values =
    ap names_in (sym (value.rolls-List values)) ∙ fold-roll-Value (List Name) names_level (Value-F.List values)
    ∙ flat_map-map (λ (names : List Name). names) names_in values

pub names_in-Object : (fields : List (List ℕ × Value)) → names_in (value.Object fields) ≡ names_in_fields fields
names_in-Object fields =
    ap names_in (sym (value.rolls-Object fields)) ∙ fold-roll-Value (List Name) names_level (Value-F.Object fields)
    ∙ flat_map-map (λ (field : List ℕ × List Name). field.1) (λ field. (field.0, names_in field.1)) fields

-- ---- filling

module _ (known : List Known) (preview : Bool) where
  pub filled-Text : (text : List ℕ) (place : Place) → filled known preview (value.Text text) place ≡ filled_text known preview text place
  filled-Text text place =
      ap (λ one. filled known preview one place) (sym (value.rolls-Text text))
      ∙ ap (λ (one : Place → Filling). one place) (fold-roll-Value (Place → Filling) (filled_level known preview) (Value-F.Text text))

  pub filled-Unknown : (place : Place) → filled known preview value.Unknown place ≡ Ok value.Unknown
  filled-Unknown place =
      ap (λ one. filled known preview one place) (sym value.rolls-Unknown)
      ∙ ap (λ (one : Place → Filling). one place) (fold-roll-Value (Place → Filling) (filled_level known preview) Value-F.Unknown)

  pub filled-Secret : (inner : Value) (place : Place)
      → filled known preview (value.Secret inner) place ≡ made_of value.Secret (filled known preview inner (inside place.levels))
  filled-Secret inner place =
      ap (λ one. filled known preview one place) (sym (value.rolls-Secret inner))
      ∙ ap (λ (one : Place → Filling). one place) (fold-roll-Value (Place → Filling) (filled_level known preview) (Value-F.Secret inner))

  pub filled-List : (values : List Value) (place : Place)
      → filled known preview (value.List values) place ≡ made_of value.List (filled_values known preview (inside place.levels) values)
  filled-List values place =
      ap (λ one. filled known preview one place) (sym (value.rolls-List values))
      ∙ ap (λ (one : Place → Filling). one place) (fold-roll-Value (Place → Filling) (filled_level known preview) (Value-F.List values))
      ∙ ap (λ told. made_of value.List (in_order told))
      (map-map (λ (one : Place → Filling). one (inside place.levels)) (filled known preview) values)

  pub filled-Object : (fields : List (List ℕ × Value)) (place : Place)
      → filled known preview (value.Object fields) place ≡ made_of value.Object (filled_members known preview (place.levels - 1) fields)
  filled-Object fields place =
      ap (λ one. filled known preview one place) (sym (value.rolls-Object fields))
      ∙ ap (λ (one : Place → Filling). one place) (fold-roll-Value (Place → Filling) (filled_level known preview) (Value-F.Object fields))
      ∙ ap (λ told. made_of value.Object (in_order told))
      (map-map (λ (field : List ℕ × (Place → Filling)). made_of (λ made. (field.0, made)) (field.1 (under field.0 (place.levels - 1))))
      (λ field. (field.0, filled known preview field.1)) fields)
