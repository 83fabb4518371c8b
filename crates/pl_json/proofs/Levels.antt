-- The spelling of a value, one equation for each variant that is asked for.
use Rattle.std.proofs.Common.{◌≡◌, ℕ, List, sym, ap, ◌∙◌}
use Rattle.pl_value.specs.Marks.{unknown_text}
use Rattle.pl_value.specs.declared.value.Value.{Value}
use Rattle.pl_value.specs.declared.value.Value.TheOpen.{Value-F}
use Rattle.pl_value.specs.declared.value.Value.TheVariants as value
use Rattle.pl_value.specs.declared.value.Value.TheFolds.{fold-roll-Value}
use Rattle.serde_json.specs.Data.{Data, string}
use Rattle.pl_json.specs.Spelled.{spelled, spelled_level, spelled_fields}

pub spelled-Text : (text : List ℕ) → spelled (value.Text text) ≡ string text
spelled-Text text = ap spelled (sym (value.rolls-Text text)) ∙ fold-roll-Value Data spelled_level (Value-F.Text text)

pub spelled-Object : (fields : List (List ℕ × Value)) → spelled (value.Object fields) ≡ spelled_fields fields
spelled-Object fields = ap spelled (sym (value.rolls-Object fields)) ∙ fold-roll-Value Data spelled_level (Value-F.Object fields)

pub spelled-Unknown : spelled value.Unknown ≡ string unknown_text
spelled-Unknown = ap spelled (sym value.rolls-Unknown) ∙ fold-roll-Value Data spelled_level Value-F.Unknown
