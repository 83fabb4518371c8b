use Rattle.std.proofs.Common.{◌≡◌, ℕ, ◌+◌, ◌<◌, List, [], ◌∷◌, ◌++◌, take, length, get_or, sym, ap, ◌∙◌}
use Rattle.std.proofs.lemmas.List.{take_more}
use Rattle.std.proofs.lemmas.List.Elements.{filter_map-append}
use Rattle.std.specs.List.{filter_map}
use Rattle.pl_value.specs.declared.value.Value.{Value}
use Rattle.pl_program_file.specs.Registered.{Pairs, property_dependencies_of, property_of, with_property}
use Rattle.pl_program_file.specs.declared.known.Known.{Known}
use Rattle.pl_program_file.proofs.registering.property_dependencies_of.Goals as goal

-- one more input, behind the first ones
properties_next : (known : List Known) (inputs : Pairs) (i : ℕ) (item : List ℕ × Value) → i < length inputs → item ≡ get_or inputs i item
    → with_property known (property_dependencies_of known (take i inputs)) item ≡ property_dependencies_of known (take (i + 1) inputs)
properties_next known inputs i item here is =
    sym (filter_map-append (property_of known) (take i inputs) (item ∷ []))
    ∙ ap (filter_map (property_of known)) (ap (λ (one : List ℕ × Value). take i inputs ++ one ∷ []) is ∙ sym (take_more inputs i item here))

pub loop-key-preserved : goal.loop-key-preserved
loop-key-preserved c =
    c.in_ok-add_property.ensures
    ∙ ap (λ pairs. with_property c.args.known.now pairs c.loop-key-item.result) c.loop-key.invariant
    ∙ properties_next c.args.known.now c.args.inputs.now c.loop-key.key-index c.loop-key-item.result c.loop-key-test.true c.loop-key-item.is
