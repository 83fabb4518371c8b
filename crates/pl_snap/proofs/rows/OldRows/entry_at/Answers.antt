use Rattle.std.proofs.Common.{◌≡◌, ◌<◌, List, option_map, length, slice_get, arith, refl, ap, sym, ◌∙◌}
use Rattle.std.proofs.lemmas.Option.{slice_get_read}
use Rattle.pl_snap.specs.Model.{Row}
use Rattle.pl_snap.proofs.RowLemmas.{entry-row, length-rows}
use Rattle.pl_snap.proofs.rows.OldRows.entry_at.Goals as goal

pub index-requires : goal.index-requires
index-requires c =
    let a = c.self.inside in
    let same : length c.args.self.now ≡ length a.entries.items = sym (ap length c.self.view_is) ∙ length-rows a.set_at a.tags.items a.entries.items c.self.invariant.0 in
    omega (arith, a.entries.ok.0, c.requires)

pub returns : goal.returns
returns c =
    let a = c.self.inside in
    let same : length c.args.self.now ≡ length a.entries.items = sym (ap length c.self.view_is) ∙ length-rows a.set_at a.tags.items a.entries.items c.self.invariant.0 in
    let within : c.args.at < length a.entries.items = omega (arith, c.requires) in
    ap (λ (rows : List Row). option_map (λ row. row.entry) (slice_get rows c.args.at)) (sym c.self.view_is)
    ∙ entry-row a.set_at a.tags.items a.entries.items c.args.at c.self.invariant.0
    ∙ slice_get_read a.entries.items (length a.entries.items) c.args.at c.index.result.now refl within c.index.ensures
