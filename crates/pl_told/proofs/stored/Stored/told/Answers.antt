use Rattle.std.proofs.Common.{◌∙◌, List, sym, ap}
use Rattle.std.specs.List.{slice_get}
use Rattle.pl_model.specs.declared.heard.Heard.{Heard}
use Rattle.pl_told.proofs.Seen.{heard_seen}
use Rattle.pl_told.proofs.stored.Stored.told.Goals as goal

pub returns : goal.returns
returns c =
    c.heard_at.ensures ∙ ap (λ (items : List Heard). slice_get items c.args.place) c.as_slice.ensures.value
    ∙ sym (heard_seen c.self.inside c.self.invariant c.args.self.now c.self.view_is c.args.place)
