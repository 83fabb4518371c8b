use Rattle.std.proofs.Common.{◌∙◌, ℕ, Option, option_map, map, reverse, ap, sym}
use Rattle.pl_model.specs.Due.{all_sends}
use Rattle.pl_model.specs.Rows.{row_numbers}
use Rattle.pl_model.specs.declared.work.Work.TheVariants as work
use Rattle.pl_due.specs.Now.{due_now}
use Rattle.pl_due.specs.Seen.{known_in}
use Rattle.pl_due.proofs.Finding.{find_mapped, first_of, second_of}
use Rattle.pl_due.proofs.seen.Seen.first_removal.Goals as goal

pub returns-in-Some : goal.returns-in-Some
returns-in-Some g c =
    first_of (due_now c.args.self.now (g.L.LaneView.told c.args.lanes.now)) (map work.Drop (reverse (row_numbers (known_in c.args.self.now)))) (map work.Send (all_sends (known_in c.args.self.now)))
    (work.Drop c.in-Some.row)
    (ap (λ (o : Option ℕ). option_map work.Drop o) c.in-Some.ensures ∙ sym (find_mapped (due_now c.args.self.now (g.L.LaneView.told c.args.lanes.now)) work.Drop (reverse (row_numbers (known_in c.args.self.now)))))

pub returns-in-None : goal.returns-in-None
returns-in-None g c =
    second_of (due_now c.args.self.now (g.L.LaneView.told c.args.lanes.now)) (map work.Drop (reverse (row_numbers (known_in c.args.self.now)))) (map work.Send (all_sends (known_in c.args.self.now)))
    c.sent.result
    (ap (λ (o : Option ℕ). option_map work.Drop o) c.in-None.ensures ∙ sym (find_mapped (due_now c.args.self.now (g.L.LaneView.told c.args.lanes.now)) work.Drop (reverse (row_numbers (known_in c.args.self.now)))))
    c.sent.ensures
