use Rattle.std.proofs.Common.{◌≡◌, ◌<◌, List, length, map, slice_get, arith, refl, ap, sym, ◌∙◌}
use Rattle.std.proofs.lemmas.Option.{slice_get_read}
use Rattle.pl_snap.specs.Model.{Waiting}
use Rattle.pl_snap.specs.Rows.{tagged_pending}
use Rattle.pl_snap.proofs.ListLemmas.{get_map, length-zip}
use Rattle.pl_snap.proofs.RowLemmas.{pending-waiting}
use Rattle.pl_snap.proofs.waiting.Waitings.pending_at.Goals as goal

pub index-requires : goal.index-requires
index-requires c =
    let a = c.self.inside in
    let same : length c.args.self.now ≡ length a.operations.items = sym (ap length c.self.view_is) ∙ length-zip tagged_pending a.tags.items a.operations.items c.self.invariant.0 in
    omega (arith, a.operations.ok.0, c.requires)

pub returns : goal.returns
returns c =
    let a = c.self.inside in
    let same : length c.args.self.now ≡ length a.operations.items = sym (ap length c.self.view_is) ∙ length-zip tagged_pending a.tags.items a.operations.items c.self.invariant.0 in
    let within : c.args.at < length a.operations.items = omega (arith, c.requires) in
    get_map (λ one. one.pending) c.args.self.now c.args.at
    ∙ ap (λ (all : List Waiting). slice_get (map (λ one. one.pending) all) c.args.at) (sym c.self.view_is)
    ∙ ap (λ all. slice_get all c.args.at) (pending-waiting a.tags.items a.operations.items c.self.invariant.0)
    ∙ slice_get_read a.operations.items (length a.operations.items) c.args.at c.index.result.now refl within c.index.ensures
