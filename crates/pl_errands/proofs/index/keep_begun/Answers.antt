use Rattle.std.proofs.Common.{◌≡◌, true, rules, sym, ◌∙◌}
use Rattle.pl_errands.proofs.Looking.{begun_again}
use Rattle.pl_errands.proofs.index.keep_begun.Goals as goal

pub returns-else-not-contains_key : goal.returns-else-not-contains_key
returns-else-not-contains_key c =
    let there : c.contains_key.result ≡ true = search rules in
    begun_again c.args.index.now c.args.op (sym c.contains_key.ensures ∙ there)
