use Rattle.std.proofs.Common.{◌∙◌, ◌<◌, length, arith, sym, ap}
use Rattle.pl_sound.proofs.Index.{lacking_in, lacking_of, lacking_of-found, lacking_of-more}
use Rattle.pl_sound.proofs.seen.Seen.property_missing.Goals as goal

pub returns-in-Some : goal.returns-in-Some
returns-in-Some c =
    let inside : c.loop-pair.pair-index < length c.as_slice-pair-items.result.now = omega arith in
    lacking_of-found c.args.self.now c.as_slice-pair-items.result.now c.loop-pair.pair-index c.pair-item.result c.in-Some.missing inside c.pair-item.is c.loop-pair.invariant
    (sym c.in-Some.is ∙ c.in_ok-missing.ensures ∙ ap (lacking_in c.args.self.now) c.as_slice.ensures)
    ∙ ap (lacking_of c.args.self.now) c.as_slice-pair-items.ensures

pub loop-pair-preserved : goal.loop-pair-preserved
loop-pair-preserved c =
    let inside : c.loop-pair.pair-index < length c.as_slice-pair-items.result.now = omega arith in
    lacking_of-more c.args.self.now c.as_slice-pair-items.result.now c.loop-pair.pair-index c.pair-item.result inside c.pair-item.is c.loop-pair.invariant
    (sym c.in_default.is ∙ c.in_ok-missing.ensures ∙ ap (lacking_in c.args.self.now) c.as_slice.ensures)
