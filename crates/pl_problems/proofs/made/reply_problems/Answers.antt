use Rattle.std.proofs.Common.{◌∙◌, ◌++◌, sym}
use Rattle.std.proofs.lemmas.List.{append_assoc}
use Rattle.pl_columns.specs.Read.{known_by}
use Rattle.pl_lemmas.specs.Words.{option_list}
use Rattle.pl_problems.proofs.Making.{made_by_reply}
use Rattle.pl_problems.proofs.made.reply_problems.Goals as goal

pub returns : goal.returns
returns c = λ earlier is.
    c.in_ok-append.ensures.items
    ∙ (λ i. c.in_ok-push_found.ensures i ++ c.in_ok-missing.missing.items)
    ∙ append_assoc c.in_ok-problems.problems.items (option_list c.in_ok-own.own) c.in_ok-missing.missing.items
    ∙ (λ i. c.in_ok-problems.ensures i ++ (option_list (c.in_ok-own.ensures i) ++ c.in_ok-missing.ensures i))
    ∙ sym (made_by_reply c.args.before earlier (known_by c.args.columns.now) is c.args.ticket c.args.reply.now)
