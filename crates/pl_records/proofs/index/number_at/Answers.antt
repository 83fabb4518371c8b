use Rattle.std.proofs.Common.{◌∙◌, sym}
use Rattle.pl_lemmas.proofs.Numbered.{numbered_reverse}
use Rattle.pl_records.proofs.index.number_at.Goals as goal

pub returns : goal.returns
returns c = c.copied.ensures ∙ c.get_index.ensures.key ∙ sym (numbered_reverse c.args.numbers.now.keys c.args.place)
