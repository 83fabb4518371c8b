use Rattle.std.proofs.Common.{refl}
use Rattle.pl_json.specs.Read.{ciphertext_key}
use Rattle.pl_json.proofs.keys.ciphertext_key.Goals as goal

pub returns : goal.returns
unfolding ciphertext_key
returns c = refl
