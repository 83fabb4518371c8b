use Rattle.std.proofs.Common.{◌≡◌, ◌<◌, ◌∙◌, ◌++◌, ◌∷◌, [], ℕ, List, Some, if◌then◌else◌, length, option_map, slice_get, refl, sym, ap, arith}
use Rattle.std.proofs.lemmas.List.{length-replicate}
use Rattle.std.proofs.lemmas.Option.{slice_get_read}
use Rattle.std.specs.List.{range_with_len}
use Rattle.std.specs.Str.{bytes_eq}
use Rattle.pl_lemmas.specs.Words.{has_number}
use Rattle.pl_base.specs.Dependents.{dependents_among, group_in, met_by}
use Rattle.pl_base.proofs.Grouped.{grouped_more, grouped_start, met_low, met_refers}
use Rattle.pl_base.proofs.Joined.{lists_done, lists_more, lists_start}
use Rattle.pl_base.proofs.dependents.fill.Goals as goal

pub loop-place-init : goal.loop-place-init
loop-place-init c = record {
  lists = lists_start c.args.rows.now c.args.lists.now c.requires;
  grouped = grouped_start c.new-groups.result c.args.rows.now c.new-groups.ensures.empty;
}

pub join_all-requires : goal.join_all-requires
join_all-requires c = λ row there.
    let met : c.as_slice.result.now ≡ met_by c.args.rows.now c.loop-place.groups c.index-rows-place.result = c.as_slice.ensures.value ∙ c.in_ok-met.ensures in
    let low : row < c.loop-place.place =
    met_low c.loop-place.groups c.args.rows.now c.loop-place.place c.loop-place.invariant.grouped row c.index-rows-place.result
    (ap (λ (numbers : List ℕ). has_number numbers row) (sym met) ∙ there) in
    let inside : c.loop-place.place < length c.args.rows.now = omega arith in
    let long : length c.args.lists.now ≡ length c.args.rows.now = ap length c.requires ∙ length-replicate {A = List ℕ} (length c.args.rows.now) [] in
    let same : length c.loop-place.lists ≡ length c.args.lists.now = c.loop-place.auto.lists in
    omega arith

pub loop-place-preserved : goal.loop-place-preserved
loop-place-preserved c =
    let inside : c.loop-place.place < length c.args.rows.now = omega arith in
    let here : slice_get c.args.rows.now c.loop-place.place ≡ Some c.index-rows-place.result =
    slice_get_read c.args.rows.now (length c.args.rows.now) c.loop-place.place c.index-rows-place.result refl inside c.index-rows-place.is in
    let met : c.as_slice.result.now ≡ met_by c.args.rows.now c.loop-place.groups c.index-rows-place.result = c.as_slice.ensures.value ∙ c.in_ok-met.ensures in
    record {
      lists = λ row. lists_more c.args.rows.now c.loop-place.place row (has_number c.as_slice.result.now row)
          (slice_get c.loop-place.lists row) (slice_get c.join_all.new.lists row)
          (ap (λ (numbers : List ℕ). has_number numbers row) met
          ∙ met_refers c.loop-place.groups c.args.rows.now c.loop-place.place c.loop-place.invariant.grouped row c.index-rows-place.result here)
          (c.loop-place.invariant.lists row) (c.in_ok-join_all.ensures row);
      grouped = grouped_more c.loop-place.groups c.add_place.new.groups c.args.rows.now c.loop-place.place c.index-rows-place.result inside
          c.index-rows-place.is c.loop-place.invariant.grouped
          (λ urn. c.in_ok-add_place.ensures urn
          ∙ ap (λ (text : List ℕ). if bytes_eq text urn then group_in c.loop-place.groups urn ++ c.loop-place.place ∷ [] else group_in c.loop-place.groups urn)
          c.as_str.ensures.text);
    }

pub returns : goal.returns
returns c =
    let same : c.loop-place.place ≡ length c.args.rows.now = omega arith in
    lists_done c.args.rows.now c.loop-place.lists
    (λ row. c.loop-place.invariant.lists row
    ∙ ap (λ (n : ℕ). option_map (dependents_among c.args.rows.now n) (slice_get (range_with_len 0 (length c.args.rows.now)) row)) same)
