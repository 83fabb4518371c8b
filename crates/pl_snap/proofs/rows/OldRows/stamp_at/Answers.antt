use Rattle.std.proofs.Common.{◌≡◌, ℕ, ◌<◌, ◌≤◌, ◌+◌, ◌^◌, List, Option, Some, None, option_map, length, slice_get, true, arith, refl, ap, sym, subst, ◌∙◌}
use Rattle.std.proofs.lemmas.Option.{slice_get_read}
use Rattle.pl_snap.specs.Model.{Row}
use Rattle.pl_snap.specs.Rows.{fits, rows_in, set_end}
use Rattle.pl_snap.proofs.RowLemmas.{length-rows, stamp-set, stamp-tagged, tagged_length}
use Rattle.pl_snap.proofs.rows.OldRows.stamp_at.Goals as goal

pub overflow_add-result : goal.overflow_add-result
overflow_add-result c =
    let a = c.self.inside in
    let same : length c.args.self.now ≡ length a.entries.items = sym (ap length c.self.view_is) ∙ length-rows a.set_at a.tags.items a.entries.items c.self.invariant.0 in
    let below : c.in-Some.first + length a.entries.items ≤ 2 ^ 62 = subst (λ (o : Option ℕ). set_end o (length a.entries.items) ≤ 2 ^ 62) c.in-Some.is c.self.invariant.1 in
    omega (arith, c.requires)

pub index-requires : goal.index-requires
index-requires c =
    let a = c.self.inside in
    let same : length c.args.self.now ≡ length a.entries.items = sym (ap length c.self.view_is) ∙ length-rows a.set_at a.tags.items a.entries.items c.self.invariant.0 in
    let tagged : length a.tags.items ≡ length a.entries.items = tagged_length a.tags.items a.entries.items (subst (λ (o : Option ℕ). fits o a.tags.items a.entries.items ≡ true) c.in-None.is c.self.invariant.0) in
    omega (arith, a.tags.ok.0, c.requires)

pub returns-in-Some : goal.returns-in-Some
returns-in-Some c =
    let a = c.self.inside in
    let same : length c.args.self.now ≡ length a.entries.items = sym (ap length c.self.view_is) ∙ length-rows a.set_at a.tags.items a.entries.items c.self.invariant.0 in
    let within : c.args.at < length a.entries.items = omega (arith, c.requires) in
    let view : rows_in (Some c.in-Some.first) a.tags.items a.entries.items ≡ c.args.self.now = subst (λ (o : Option ℕ). rows_in o a.tags.items a.entries.items ≡ c.args.self.now) c.in-Some.is c.self.view_is in
    ap (λ (rows : List Row). option_map (λ row. row.stamp) (slice_get rows c.args.at)) (sym view)
    ∙ stamp-set c.in-Some.first a.tags.items a.entries.items c.args.at within

pub returns-in-None : goal.returns-in-None
returns-in-None c =
    let a = c.self.inside in
    let same : length c.args.self.now ≡ length a.entries.items = sym (ap length c.self.view_is) ∙ length-rows a.set_at a.tags.items a.entries.items c.self.invariant.0 in
    let fit : fits None a.tags.items a.entries.items ≡ true = subst (λ (o : Option ℕ). fits o a.tags.items a.entries.items ≡ true) c.in-None.is c.self.invariant.0 in
    let tagged : length a.tags.items ≡ length a.entries.items = tagged_length a.tags.items a.entries.items fit in
    let within : c.args.at < length a.tags.items = omega (arith, c.requires) in
    let view : rows_in None a.tags.items a.entries.items ≡ c.args.self.now = subst (λ (o : Option ℕ). rows_in o a.tags.items a.entries.items ≡ c.args.self.now) c.in-None.is c.self.view_is in
    ap (λ (rows : List Row). option_map (λ row. row.stamp) (slice_get rows c.args.at)) (sym view)
    ∙ stamp-tagged a.tags.items a.entries.items c.args.at fit
    ∙ ap (option_map (λ tag. tag.stamp)) (slice_get_read a.tags.items (length a.tags.items) c.args.at c.index.result.now refl within c.index.ensures)
