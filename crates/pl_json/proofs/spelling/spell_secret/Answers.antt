use Rattle.std.proofs.Common.{rules}
use Rattle.pl_value.specs.Marks.{secret_key}
use Rattle.serde_json.specs.declared.value.Value.{the_lemmas}
use Rattle.pl_json.specs.Spelled.{plaintext_key}
use Rattle.pl_json.proofs.spelling.spell_secret.Goals as goal

pub returns : goal.returns
unfolding secret_key plaintext_key
returns c = search (rules, the_lemmas)
