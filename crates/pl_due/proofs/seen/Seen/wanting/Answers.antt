use Rattle.std.proofs.Common.{◌∙◌, [], ◌++◌, Option, ap}
use Rattle.std.specs.List.{fold}
use Rattle.pl_events.specs.declared.operation.Source.{Source}
use Rattle.pl_model.specs.Due.{operations_of}
use Rattle.pl_due.specs.Now.{all_works, better}
use Rattle.pl_due.specs.Seen.{known_in}
use Rattle.pl_due.proofs.Listing.{all_same}
use Rattle.pl_due.proofs.Passing.{best_of_all, nothing_first, same_works}
use Rattle.pl_due.proofs.seen.Seen.wanting.Goals as goal

pub returns : goal.returns
returns c =
    c.best_of_all.ensures
    ∙ ap (λ (best : Option Source). fold (better c.args.self.now) best (all_works c.args.self.now)) (nothing_first c.args.self.now)
    ∙ best_of_all c.args.self.now (all_works c.args.self.now) []
    ∙ same_works c.args.self.now ([] ++ all_works c.args.self.now) (operations_of (known_in c.args.self.now)) (all_same c.args.self.now)
