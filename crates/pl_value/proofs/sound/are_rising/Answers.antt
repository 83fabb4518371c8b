use Rattle.std.proofs.Common.{◌≤◌, sym, ap, ◌∙◌, length, arith}
use Rattle.pl_value.specs.Keys.{are_rising, keys_of}
use Rattle.pl_value.proofs.FieldParts.{Pairs}
use Rattle.pl_value.proofs.Rising.{rising_on, short_rising}
use Rattle.pl_value.proofs.sound.are_rising.Goals as goal

pub loop-left-preserved : goal.loop-left-preserved
loop-left-preserved c =
    let left = c.loop-left.left.now in
    let below = sym c.is_below.ensures ∙ c.if-not-is_below.false in
    ap (λ (f : Pairs). are_rising (keys_of f)) c.rest-left.ensures
    ∙ rising_on left c.index-left-0.result c.index-left-1.result (omega arith) below ∙ c.loop-left.invariant

pub returns : goal.returns
returns c =
    let short : length c.loop-left.left.now ≤ 1 = omega arith in
    sym (sym c.loop-left.invariant ∙ short_rising c.loop-left.left.now short)
