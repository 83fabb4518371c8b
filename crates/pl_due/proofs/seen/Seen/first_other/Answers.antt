use Rattle.std.proofs.Common.{◌∙◌, ℕ, Option, option_map, map, ap, sym}
use Rattle.pl_model.specs.Due.{goal_numbers}
use Rattle.pl_model.specs.declared.work.Work.TheVariants as work
use Rattle.pl_due.specs.Now.{clears_of, due_now}
use Rattle.pl_due.specs.Seen.{known_in}
use Rattle.pl_due.proofs.Finding.{find_mapped, first_of, second_of}
use Rattle.pl_due.proofs.seen.Seen.first_other.Goals as goal

pub returns-in-Some : goal.returns-in-Some
returns-in-Some g c =
    first_of (due_now c.args.self.now (g.L.LaneView.told c.args.lanes.now)) (map work.Keep (goal_numbers (known_in c.args.self.now))) (clears_of (known_in c.args.self.now))
    (work.Keep c.in-Some.number)
    (ap (λ (o : Option ℕ). option_map work.Keep o) c.in-Some.ensures ∙ sym (find_mapped (due_now c.args.self.now (g.L.LaneView.told c.args.lanes.now)) work.Keep (goal_numbers (known_in c.args.self.now))))

pub returns-in-None : goal.returns-in-None
returns-in-None g c =
    second_of (due_now c.args.self.now (g.L.LaneView.told c.args.lanes.now)) (map work.Keep (goal_numbers (known_in c.args.self.now))) (clears_of (known_in c.args.self.now))
    c.first_cleared.result
    (ap (λ (o : Option ℕ). option_map work.Keep o) c.in-None.ensures ∙ sym (find_mapped (due_now c.args.self.now (g.L.LaneView.told c.args.lanes.now)) work.Keep (goal_numbers (known_in c.args.self.now))))
    c.first_cleared.ensures
