use Rattle.std.proofs.Common.{◌∙◌, Option, option_map, ap, sym}
use Rattle.pl_events.specs.declared.operation.Op.{Op}
use Rattle.pl_model.specs.Due.{all_sends}
use Rattle.pl_model.specs.declared.work.Work.TheVariants as work
use Rattle.pl_due.specs.Now.{due_now}
use Rattle.pl_due.specs.Seen.{known_in}
use Rattle.pl_due.proofs.Finding.{find_mapped}
use Rattle.pl_due.proofs.seen.Seen.sent.Goals as goal

pub returns-in-None : goal.returns-in-None
returns-in-None g c =
    ap (λ (o : Option Op). option_map work.Send o) c.in-None.ensures ∙ sym (find_mapped (due_now c.args.self.now (g.L.LaneView.told c.args.lanes.now)) work.Send (all_sends (known_in c.args.self.now)))

pub returns-in-Some : goal.returns-in-Some
returns-in-Some g c =
    ap (λ (o : Option Op). option_map work.Send o) c.in-Some.ensures ∙ sym (find_mapped (due_now c.args.self.now (g.L.LaneView.told c.args.lanes.now)) work.Send (all_sends (known_in c.args.self.now)))
