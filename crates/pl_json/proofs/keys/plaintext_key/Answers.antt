use Rattle.std.proofs.Common.{refl}
use Rattle.pl_json.specs.Spelled.{plaintext_key}
use Rattle.pl_json.proofs.keys.plaintext_key.Goals as goal

pub returns : goal.returns
unfolding plaintext_key
returns c = refl
