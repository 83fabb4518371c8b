use Rattle.std.proofs.Common.{rules}
use Rattle.serde_json.specs.declared.value.Value.{the_lemmas}
use Rattle.pl_checkpoint_text.specs.Spelled.{pending_data}
use Rattle.pl_checkpoint_text.proofs.spelling.pending_value.Goals as goal

pub returns : goal.returns
unfolding pending_data
returns c = search (rules, the_lemmas)
