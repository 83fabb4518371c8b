use Rattle.std.proofs.Common.{lit<, rules}
use borrow.Author.Tests.{tests}
use Rattle.std.proofs.lemmas.Iterator.Search.{any_from_yields_List}
use Rattle.std.proofs.lemmas.Iterator.Splits.{YieldsList-from_str_split}
use Rattle.pl_urn.specs.Grammar.{has_empty_piece, is_empty}
use Rattle.pl_urn.proofs.grammar.has_empty_piece.Goals as goal

pub returns : goal.returns
unfolding has_empty_piece
returns c =
    any_from_yields_List is_empty _ _ _ c.any.ensures.ran
    (YieldsList-from_str_split 36 c.args.kind.now (lit< tt) c.split.ensures.text c.split.ensures.has_more c.split.ensures.pattern)
    (λ x b q k. search (rules, tests))
