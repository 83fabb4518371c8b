-- What a path goes through keeps its kind and its secrets when it is set back.
use Rattle.std.proofs.Common.{◌≡◌, ℕ, List, [], ◌∷◌, ◌++◌, map, option_map, Option, None, Some, refl, sym, ap, subst, ◌∙◌}
use Rattle.pl_value.specs.declared.value.Value.{Value, roll-Value}
use Rattle.pl_value.specs.declared.value.Value.TheOpen.{Value-F}
use Rattle.pl_value.specs.declared.value.Value.TheVariants as value
use Rattle.pl_value.specs.declared.value.Value.TheFolds.{ind-Value, map-Value, para-roll-Value}
use Rattle.pl_value.proofs.FieldParts.{Pairs}
use Rattle.pl_path.specs.declared.segment.Segment.{Segment}
use Rattle.pl_path.specs.Found.{found_at, found_in, inside, value_under}
use Rattle.pl_path.specs.Laws.{outline, outline_level}
use Rattle.pl_path.specs.Reset.{reset_element, reset_field, reset_fields, reset_in}
use Rattle.pl_path.proofs.Levels.{reset_in-Null, reset_in-Flag, reset_in-Whole, reset_in-Text, reset_in-List, reset_in-Object, reset_in-Secret, reset_in-Unknown}
use Rattle.pl_path.proofs.SetBack.{found_behind, way_field_on, way_on}

outline-List : (values : List Value) → outline (value.List values) ≡ value.List []
outline-List values = ap outline (sym (value.rolls-List values)) ∙ para-roll-Value Value outline_level (Value-F.List values)

outline-Object : (fields : Pairs) → outline (value.Object fields) ≡ value.Object []
outline-Object fields = ap outline (sym (value.rolls-Object fields)) ∙ para-roll-Value Value outline_level (Value-F.Object fields)

outline-Secret : (inner : Value) → outline (value.Secret inner) ≡ value.Secret (outline inner)
outline-Secret inner = ap outline (sym (value.rolls-Secret inner)) ∙ para-roll-Value Value outline_level (Value-F.Secret inner)

abbrev Keeps : Segment → List Segment → Option Value → Value → Type 0
Keeps segment path old one = outline (reset_in (segment ∷ path) old one) ≡ outline one

abbrev Kept : Segment → List Segment → Option Value → Type 0
Kept segment path old = (one : Value) × Keeps segment path old one

keeps_level : (segment : Segment) (path : List Segment) (old : Option Value) (y : Value-F (Kept segment path old))
    → Keeps segment path old (roll-Value (map-Value (Kept segment path old) Value (λ e. e.0) y))
keeps_level segment path old Value-F.Null = subst (Keeps segment path old) (sym value.rolls-Null) (ap outline (reset_in-Null segment path old))
keeps_level segment path old (Value-F.Flag flag) =
    subst (Keeps segment path old) (sym (value.rolls-Flag flag)) (ap outline (reset_in-Flag segment path old flag))
keeps_level segment path old (Value-F.Whole number) =
    subst (Keeps segment path old) (sym (value.rolls-Whole number)) (ap outline (reset_in-Whole segment path old number))
keeps_level segment path old (Value-F.Text text) =
    subst (Keeps segment path old) (sym (value.rolls-Text text)) (ap outline (reset_in-Text segment path old text))
keeps_level segment path old (Value-F.List kept) =
    let values : List Value = map (λ (e : Kept segment path old). e.0) kept in
    subst (Keeps segment path old) (sym (value.rolls-List values))
    (ap outline (reset_in-List segment path old values) ∙ outline-List (reset_element (reset_in path old) segment path old values) ∙ sym (outline-List values))
keeps_level segment path old (Value-F.Object kept) =
    let fields : Pairs = map (λ (field : List ℕ × Kept segment path old). (field.0, field.1.0)) kept in
    subst (Keeps segment path old) (sym (value.rolls-Object fields))
    (ap outline (reset_in-Object segment path old fields) ∙ outline-Object (reset_field (reset_in path old) segment path old fields) ∙ sym (outline-Object fields))
keeps_level segment path old (Value-F.Secret kept) =
    subst (Keeps segment path old) (sym (value.rolls-Secret kept.0))
    (ap outline (reset_in-Secret segment path old kept.0) ∙ outline-Secret (reset_in (segment ∷ path) old kept.0)
    ∙ ap value.Secret kept.1 ∙ sym (outline-Secret kept.0))
keeps_level segment path old Value-F.Unknown =
    subst (Keeps segment path old) (sym value.rolls-Unknown) (ap outline (reset_in-Unknown segment path old))

keeps_outline : (segment : Segment) (path : List Segment) (old : Option Value) (one : Value) → Keeps segment path old one
keeps_outline segment path old =
    ind-Value (Keeps segment path old)
    (λ x y same. subst (λ (z : Value-F Value). Keeps segment path old (roll-Value z)) same (keeps_level segment path old y))

same_outline : (first : List Segment) (change : Value → Value) (got : Option Value)
    → ((one : Value) → option_map outline (found_in first (change one)) ≡ option_map outline (found_in first one))
    → option_map outline (found_behind first (option_map change got)) ≡ option_map outline (found_behind first got)
same_outline first change None each = refl
same_outline first change (Some one) each = each one

keeps_in : (first : List Segment) (next : Segment) (more : List Segment) (old : Option Value) (holder : Value)
    → option_map outline (found_in first (reset_in (first ++ next ∷ more) old holder)) ≡ option_map outline (found_in first holder)
keeps_in [] next more old holder = ap (λ (one : Value). Some one) (keeps_outline next more old holder)
keeps_in (segment ∷ first) next more old holder =
    ap (λ (got : Option Value). option_map outline (found_behind first got)) (way_on segment first next more old holder)
    ∙ same_outline first (reset_in (first ++ next ∷ more) old) (inside segment holder) (keeps_in first next more old)

pub keeps_the_way : (first : List Segment) (next : Segment) (more : List Segment) (old : Option Value) (fields : Pairs)
    → option_map outline (found_at first (reset_fields (first ++ next ∷ more) old fields)) ≡ option_map outline (found_at first fields)
keeps_the_way [] next more old fields = refl
keeps_the_way (segment ∷ first) next more old fields =
    ap (λ (got : Option Value). option_map outline (found_behind first got)) (way_field_on segment first next more old fields)
    ∙ same_outline first (reset_in (first ++ next ∷ more) old) (value_under segment fields) (keeps_in first next more old)
