use Rattle.std.proofs.Common.{◌≡◌, ◌∙◌, ◌<◌, ◌+◌, ◌++◌, ◌∷◌, [], ℕ, List, arith, length, refl, Some, sym, true, false}
use Rattle.std.proofs.lemmas.Option.{slice_get_read}
use Rattle.std.specs.List.{slice_get}
use Rattle.pl_state.specs.Chain.{joins}
use Rattle.pl_state.specs.declared.entry.Entry.{Entry}
use Rattle.pl_chain.proofs.Stands.{begun_stands, joined_chain, joined_stands, joins_by_index, none_stands, passed_chain, passed_stands, same_stands}
use Rattle.pl_chain.proofs.chained.chained.Goals as goal
use Rattle.pl_chain.proofs.chained.chained.Goals.{then-refers_into+in_ok-add+in_ok-push, else-refers_into+then-place-at+in_ok-add-2, else-refers_into+else-place-at}

pub loop-place-init : goal.loop-place-init
loop-place-init c = record {
  listed = c.new-chain.ensures;
  stands = none_stands c.args.rows.now c.args.at c.new-chain.result c.new-seen.result c.new-seen.ensures;
}

pub loop-place-preserved : goal.loop-place-preserved
loop-place-preserved c =
    let rows : List Entry = c.args.rows.now in
    let at : ℕ = c.args.at in
    let place : ℕ = c.loop-place.place in
    let chain : List ℕ = c.loop-place.chain in
    let listed = c.loop-place.invariant.listed in
    let stands = c.loop-place.invariant.stands in
    let inside : place < length rows = omega arith in
    let here : slice_get rows place ≡ Some c.index-rows-place.result = slice_get_read rows (length rows) place c.index-rows-place.result refl inside c.index-rows-place.is in
    let told : c.refers_into.result ≡ joins rows at chain place = c.refers_into.ensures ∙ joins_by_index rows at place c.index-rows-place.result chain c.loop-place.seen here listed stands in
    elim c.if-refers_into.branch [
      | then-refers_into+in_ok-add+in_ok-push w ↦
          let joined : joins rows at chain place ≡ true = sym told ∙ w.if-refers_into.true in
          let longer : c.if-refers_into.chain ≡ chain ++ place ∷ [] = w.chain-is ∙ w.in_ok-push.ensures.added in
          record {
            listed = longer ∙ joined_chain rows at place chain listed joined;
            stands = same_stands rows at (place + 1) (chain ++ place ∷ []) c.if-refers_into.chain w.add.new.self c.if-refers_into.seen longer w.seen-is
                (joined_stands rows at place c.index-rows-place.result chain c.loop-place.seen w.add.new.self here listed joined w.in_ok-add.ensures stands);
          }
      | else-refers_into+then-place-at+in_ok-add-2 w ↦
          let passed : joins rows at chain place ≡ false = sym told ∙ w.if-refers_into.false in
          record {
            listed = w.chain-is ∙ passed_chain rows at place chain listed passed;
            stands = same_stands rows at (place + 1) chain c.if-refers_into.chain w.add-then-place-at.new.self c.if-refers_into.seen w.chain-is w.seen-is
                (begun_stands rows at place c.index-rows-place.result chain c.loop-place.seen w.add-then-place-at.new.self here listed w.if-place-at.true w.in_ok-add-2.ensures stands);
          }
      | else-refers_into+else-place-at w ↦
          let passed : joins rows at chain place ≡ false = sym told ∙ w.if-refers_into.false in
          record {
            listed = w.chain-is ∙ passed_chain rows at place chain listed passed;
            stands = same_stands rows at (place + 1) chain c.if-refers_into.chain c.loop-place.seen c.if-refers_into.seen w.chain-is w.seen-is
                (passed_stands rows at place chain c.loop-place.seen w.if-place-at.false stands);
          }
    ]
