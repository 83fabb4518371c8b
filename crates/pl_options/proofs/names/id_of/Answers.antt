use Rattle.std.proofs.Common.{◌≡◌}
use Rattle.pl_options.specs.Names.{id_text}
use Rattle.pl_options.proofs.FirstBad.{text_of_made}
use Rattle.pl_options.proofs.names.id_of.Goals as goal

pub returns : goal.returns
unfolding id_text
returns c =
    let text : c.encode_lower.result.now ≡ id_text c.args.drawn = cc in
    text_of_made c.from_str.result c.encode_lower.result.now (id_text c.args.drawn) text c.from_str.ensures
