use Rattle.std.proofs.Common.{◌<◌, length, ◌∙◌, arith}
use Rattle.pl_state.specs.Chain.{provider_row_of}
use Rattle.pl_base.proofs.Steps.{provider_told, things_more}
use Rattle.pl_base.proofs.Told.{told_more}
use Rattle.pl_base.proofs.providers.providers_of.Goals as goal

pub loop-place-preserved : goal.loop-place-preserved
loop-place-preserved c =
    let inside : c.loop-place.place < length c.args.rows.now = omega arith in
    record {
      leads = things_more c.args.rows.now c.loop-place.place c.index-rows-place.result inside c.index-rows-place.is
          c.loop-place.things c.add_thing.new.things c.loop-place.invariant.leads c.in_ok-add_thing.ensures;
      told = told_more (provider_row_of c.args.rows.now) c.loop-place.providers.items c.push.new.self.items c.loop-place.place c.provider_of.result
          c.loop-place.invariant.told c.in_ok-push.ensures.items
          (c.provider_of.ensures
          ∙ provider_told c.args.rows.now c.loop-place.place c.index-rows-place.result inside c.index-rows-place.is c.loop-place.things c.loop-place.invariant.leads);
    }
