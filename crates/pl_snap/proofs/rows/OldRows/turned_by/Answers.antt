use Rattle.std.proofs.Common.{◌≡◌, suc, ◌∷◌, [], List, length, map, find, arith, refl, ap, sym, ◌∙◌}
use Rattle.pl_snap.specs.Rows.{is_row, rise_from, tagged_rows, turned_rows, turned_tags}
use Rattle.pl_turning.specs.Turning.{turned_entry}
use Rattle.pl_snap.proofs.Rising.{rise-turned}
use Rattle.pl_snap.proofs.RowLemmas.{length-rows, length-turned_tags, tagged-found, turned-claim, turned-rows}
use Rattle.pl_snap.proofs.rows.OldRows.turned_by.Goals as goal

pub turn_tags-requires-clause-tagged : goal.turn_tags-requires-clause-tagged
turn_tags-requires-clause-tagged c =
    let a = c.self.inside in
    let tagged = tagged-found a.set_at a.tags.items a.entries.items c.args.self.now c.args.claim c.in-Some.row.now c.self.invariant.0 c.self.view_is c.in-Some.ensures in
    ap length c.as_slice.ensures.value ∙ tagged.0 ∙ sym (ap length c.as_slice-rows.ensures.value)

pub turn_tags-requires-clause-stamps_fit : goal.turn_tags-requires-clause-stamps_fit
turn_tags-requires-clause-stamps_fit c =
    let a = c.self.inside in
    let same : length c.as_slice-rows.result.now ≡ length c.args.self.now = ap length c.as_slice-rows.ensures.value ∙ sym (length-rows a.set_at a.tags.items a.entries.items c.self.invariant.0) ∙ ap length c.self.view_is in
    omega (arith, c.requires)

length-map : {X Y : Type 0} (f : X → Y) (xs : List X) → length (map f xs) ≡ length xs
length-map f [] = refl
length-map f (x ∷ xs) = ap suc (length-map f xs)

pub new-requires-clause-rising : goal.new-requires-clause-rising
new-requires-clause-rising c =
    let a = c.self.inside in
    let old = c.in-Some.row.now.urn in
    let tagged = tagged-found a.set_at a.tags.items a.entries.items c.args.self.now c.args.claim c.in-Some.row.now c.self.invariant.0 c.self.view_is c.in-Some.ensures in
    let same : length c.as_slice.result.now ≡ length c.as_slice-rows.result.now = ap length c.as_slice.ensures.value ∙ tagged.0 ∙ sym (ap length c.as_slice-rows.ensures.value) in
    ap (rise_from 0) c.in_ok-tags.ensures
    ∙ rise-turned 0 old c.args.first c.as_slice.result.now c.as_slice-rows.result.now same
    ∙ ap (rise_from 0) c.as_slice.ensures.value ∙ c.self.invariant.2

pub new-requires-clause-tagged : goal.new-requires-clause-tagged
new-requires-clause-tagged c =
    let a = c.self.inside in
    let old = c.in-Some.row.now.urn in
    let tagged = tagged-found a.set_at a.tags.items a.entries.items c.args.self.now c.args.claim c.in-Some.row.now c.self.invariant.0 c.self.view_is c.in-Some.ensures in
    let same : length c.as_slice.result.now ≡ length c.as_slice-rows.result.now = ap length c.as_slice.ensures.value ∙ tagged.0 ∙ sym (ap length c.as_slice-rows.ensures.value) in
    ap length c.in_ok-tags.ensures
    ∙ length-turned_tags old c.args.first c.as_slice.result.now c.as_slice-rows.result.now same
    ∙ sym (ap length c.in_ok-entries.ensures ∙ length-map (λ entry. turned_entry entry (record { old = old; new = c.args.urn.now })) c.as_slice-rows.result.now)

pub returns : goal.returns
returns c =
    let a = c.self.inside in
    let old = c.in-Some.row.now.urn in
    let new = c.args.urn.now in
    let tagged = tagged-found a.set_at a.tags.items a.entries.items c.args.self.now c.args.claim c.in-Some.row.now c.self.invariant.0 c.self.view_is c.in-Some.ensures in
    let made : c.new.result ≡ turned_rows (record { old = old; new = new }) c.args.first c.args.self.now =
    c.new.ensures
    ∙ (λ i. tagged_rows (c.in_ok-tags.ensures i) (c.in_ok-entries.ensures i))
    ∙ (λ i. tagged_rows (turned_tags old c.args.first (c.as_slice.ensures.value i) (c.as_slice-rows.ensures.value i)) (map (λ entry. turned_entry entry (record { old = old; new = new })) (c.as_slice-rows.ensures.value i)))
    ∙ turned-rows (record { old = old; new = new }) c.args.first a.tags.items a.entries.items tagged.0
    ∙ ap (turned_rows (record { old = old; new = new }) c.args.first) tagged.1 in
    turned-claim (find (is_row c.args.claim) c.args.self.now) c.in-Some.row.now new c.args.first c.args.self.now c.new.result c.in-Some.ensures (sym c.is_same.ensures ∙ c.if-is_same.false) made
