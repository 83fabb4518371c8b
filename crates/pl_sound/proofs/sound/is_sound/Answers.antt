use Rattle.std.proofs.Common.{◌∙◌, ◌<◌, length, List, arith, sym, subst, below_more}
use Rattle.pl_state.specs.declared.entry.Entry.{Entry}
use Rattle.pl_sound.specs.Sound.{IsFirstFault, IsSound}
use Rattle.pl_sound.proofs.Index.{fault_at-seen, gives-more}
use Rattle.pl_sound.proofs.Soundness.{IsSound-from_below}
use Rattle.pl_sound.proofs.sound.is_sound.Goals as goal

pub returns-in-Some-clause-unsound : goal.returns-in-Some-clause-unsound
returns-in-Some-clause-unsound c =
    let inside : c.loop-at.at < length c.as_slice-rows.result.now = omega arith in
    subst (λ (rows : List Entry). IsFirstFault rows c.loop-at.at c.in-Some.missing) c.as_slice-rows.ensures (record {
      here = fault_at-seen c.loop-at.seen c.as_slice-rows.result.now c.loop-at.at c.index-rows-at.result _ inside c.index-rows-at.is c.loop-at.invariant.same (sym c.in-Some.is ∙ c.in_ok-missing.ensures);
      before = c.loop-at.invariant.sound;
    })

pub loop-at-preserved : goal.loop-at-preserved
loop-at-preserved c =
    let inside : c.loop-at.at < length c.as_slice-rows.result.now = omega arith in
    record {
      same = gives-more c.loop-at.seen c.add.new.self c.as_slice-rows.result.now c.loop-at.at c.index-rows-at.result c.in_ok-add.ensures inside c.index-rows-at.is c.loop-at.invariant.same;
      sound = below_more _ _ c.loop-at.invariant.sound
          (fault_at-seen c.loop-at.seen c.as_slice-rows.result.now c.loop-at.at c.index-rows-at.result _ inside c.index-rows-at.is c.loop-at.invariant.same (sym c.in_default.is ∙ c.in_ok-missing.ensures));
    }

pub returns-clause-sound : goal.returns-clause-sound
returns-clause-sound c =
    subst IsSound c.as_slice-rows.ensures
    (IsSound-from_below c.as_slice-rows.result.now (λ k inside. c.loop-at.invariant.sound k (omega arith)))
