use Rattle.std.proofs.Common.{◌≡◌, ◌∙◌, rules, sym}
use Rattle.pl_chain.proofs.Given.{refers-kinds, refers_kinds}
use Rattle.pl_chain.proofs.referring.refers_into.Goals as goal

pub returns-then-has_any_of_property : goal.returns-then-has_any_of_property
returns-then-has_any_of_property c =
    let by_kind : c.if-has_any.value ≡ refers_kinds c.args.seen.now c.args.row.now = search rules in
    by_kind ∙ sym (refers-kinds c.args.seen.now c.args.row.now)

pub returns-else-has_any_of_property : goal.returns-else-has_any_of_property
returns-else-has_any_of_property c =
    let by_kind : c.has_deleter.result ≡ refers_kinds c.args.seen.now c.args.row.now = search rules in
    by_kind ∙ sym (refers-kinds c.args.seen.now c.args.row.now)
