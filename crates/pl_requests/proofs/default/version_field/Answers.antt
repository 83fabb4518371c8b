use Rattle.std.proofs.Common.{◌∙◌, ℕ, not, ◌||◌, List, ap}
use Rattle.std.specs.Str.{bytes_eq}
use Rattle.pl_value.proofs.Levels.{is_value-Text}
use Rattle.pl_value.specs.Marks.{secret_key, secret_mark}
use Rattle.pl_requests.specs.Reading.{is_known_text}
use Rattle.pl_requests.proofs.default.version_field.Goals as goal

pub push-requires-clause-sound : goal.push-requires-clause-sound
push-requires-clause-sound c = is_value-Text c.in_ok-from_str.field-0 ∙ ap is_known_text c.in_ok-from_str.ensures ∙ c.requires

pub push-requires-clause-unmarked : goal.push-requires-clause-unmarked
unfolding secret_key
push-requires-clause-unmarked c =
    ap (λ (key : List ℕ). not (bytes_eq key secret_key) || not (bytes_eq c.in_ok-from_str.field-0 secret_mark)) c.in_ok-key.ensures
