use Rattle.std.proofs.Common.{◌<◌, length, List, arith, subst}
use Rattle.pl_state.specs.declared.entry.Entry.{Entry}
use Rattle.pl_sound.specs.Sound.{IsFirstFaulty, IsSound}
use Rattle.pl_sound.proofs.Soundness.{first_faulty, sound_so_far, IsSound-from_below}
use Rattle.pl_sound.proofs.sound.fault_of.Goals as goal

pub returns-then-not-is_row_sound : goal.returns-then-not-is_row_sound
returns-then-not-is_row_sound c =
    let inside : c.loop-at.at < length c.as_slice-rows.result.now = omega arith in
    subst (λ (rows : List Entry). IsFirstFaulty rows c.loop-at.at) c.as_slice-rows.ensures
    (first_faulty c.as_slice-rows.result.now c.loop-at.at c.index-rows-at.result _ inside c.index-rows-at.is c.is_row_sound.ensures c.if-not-is_row_sound.true c.loop-at.invariant)

pub loop-at-preserved : goal.loop-at-preserved
loop-at-preserved c =
    let inside : c.loop-at.at < length c.as_slice-rows.result.now = omega arith in
    sound_so_far c.as_slice-rows.result.now c.loop-at.at c.index-rows-at.result _ inside c.index-rows-at.is c.is_row_sound.ensures c.if-not-is_row_sound.false c.loop-at.invariant

pub returns : goal.returns
returns c =
    subst IsSound c.as_slice-rows.ensures
    (IsSound-from_below c.as_slice-rows.result.now (λ k inside. c.loop-at.invariant k (omega arith)))
