use Rattle.std.proofs.Common.{◌<◌, ℕ, List, Some, length, if◌then◌else◌, ap, ◌∙◌, arith}
use Rattle.std.specs.Str.{bytes_eq}
use Rattle.pl_refresh.specs.Parents.{place_in}
use Rattle.pl_state.specs.Chain.{deleter_row_of}
use Rattle.pl_base.proofs.Steps.{deleter_told, places_more}
use Rattle.pl_base.proofs.Told.{told_more}
use Rattle.pl_base.proofs.deleters.deleters_of.Goals as goal

pub loop-place-preserved : goal.loop-place-preserved
loop-place-preserved c =
    let inside : c.loop-place.place < length c.args.rows.now = omega arith in
    record {
      leads = places_more c.args.rows.now c.loop-place.place c.index-rows-place.result inside c.index-rows-place.is
          c.loop-place.places c.put_place.new.places c.loop-place.invariant.leads
          (λ urn. c.in_ok-put_place.ensures urn
          ∙ ap (λ (text : List ℕ). if bytes_eq text urn then Some c.loop-place.place else place_in c.loop-place.places urn) c.as_str.ensures.text);
      told = told_more (deleter_row_of c.args.rows.now) c.loop-place.deleters.items c.push.new.self.items c.loop-place.place c.deleter_of.result
          c.loop-place.invariant.told c.in_ok-push.ensures.items
          (c.deleter_of.ensures
          ∙ deleter_told c.args.rows.now c.loop-place.place c.index-rows-place.result inside c.index-rows-place.is c.loop-place.places c.loop-place.invariant.leads);
    }
