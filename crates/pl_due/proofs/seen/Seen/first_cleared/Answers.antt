use Rattle.std.proofs.Common.{◌∙◌, ℕ, Option, option_map, map, ap, sym}
use Rattle.pl_model.specs.Due.{pending_numbers}
use Rattle.pl_model.specs.declared.work.Work.TheVariants as work
use Rattle.pl_due.specs.Now.{due_now, removals_of}
use Rattle.pl_due.specs.Seen.{known_in}
use Rattle.pl_due.proofs.Finding.{find_mapped, first_of, second_of}
use Rattle.pl_due.proofs.seen.Seen.first_cleared.Goals as goal

pub returns-in-Some : goal.returns-in-Some
returns-in-Some g c =
    first_of (due_now c.args.self.now (g.L.LaneView.told c.args.lanes.now)) (map work.Clear (pending_numbers (known_in c.args.self.now))) (removals_of (known_in c.args.self.now))
    (work.Clear c.in-Some.at)
    (ap (λ (o : Option ℕ). option_map work.Clear o) c.in-Some.ensures ∙ sym (find_mapped (due_now c.args.self.now (g.L.LaneView.told c.args.lanes.now)) work.Clear (pending_numbers (known_in c.args.self.now))))

pub returns-in-None : goal.returns-in-None
returns-in-None g c =
    second_of (due_now c.args.self.now (g.L.LaneView.told c.args.lanes.now)) (map work.Clear (pending_numbers (known_in c.args.self.now))) (removals_of (known_in c.args.self.now))
    c.first_removal.result
    (ap (λ (o : Option ℕ). option_map work.Clear o) c.in-None.ensures ∙ sym (find_mapped (due_now c.args.self.now (g.L.LaneView.told c.args.lanes.now)) work.Clear (pending_numbers (known_in c.args.self.now))))
    c.first_removal.ensures
