use Rattle.std.proofs.Common.{◌≡◌, ◌<◌, List, option_map, length, map, slice_get, arith, refl, ap, sym, ◌∙◌}
use Rattle.std.proofs.lemmas.Option.{slice_get_read}
use Rattle.pl_snap.specs.Model.{Waiting}
use Rattle.pl_snap.specs.Rows.{tagged_pending}
use Rattle.pl_snap.proofs.ListLemmas.{get_map, length-zip, map_first}
use Rattle.pl_snap.proofs.waiting.Waitings.stamp_at.Goals as goal

pub index-requires : goal.index-requires
index-requires c =
    let a = c.self.inside in
    let same : length c.args.self.now ≡ length a.operations.items = sym (ap length c.self.view_is) ∙ length-zip tagged_pending a.tags.items a.operations.items c.self.invariant.0 in
    let tagged : length a.tags.items ≡ length a.operations.items = c.self.invariant.0 in
    omega (arith, a.tags.ok.0, c.requires)

pub returns : goal.returns
returns c =
    let a = c.self.inside in
    let same : length c.args.self.now ≡ length a.operations.items = sym (ap length c.self.view_is) ∙ length-zip tagged_pending a.tags.items a.operations.items c.self.invariant.0 in
    let tagged : length a.tags.items ≡ length a.operations.items = c.self.invariant.0 in
    let within : c.args.at < length a.tags.items = omega (arith, c.requires) in
    get_map (λ one. one.stamp) c.args.self.now c.args.at
    ∙ ap (λ (all : List Waiting). slice_get (map (λ one. one.stamp) all) c.args.at) (sym c.self.view_is)
    ∙ ap (λ all. slice_get all c.args.at) (map_first tagged_pending (λ one. one.stamp) (λ tag. tag.stamp) (λ tag pending. refl) a.tags.items a.operations.items tagged)
    ∙ sym (get_map (λ tag. tag.stamp) a.tags.items c.args.at)
    ∙ ap (option_map (λ tag. tag.stamp)) (slice_get_read a.tags.items (length a.tags.items) c.args.at c.index.result.now refl within c.index.ensures)
