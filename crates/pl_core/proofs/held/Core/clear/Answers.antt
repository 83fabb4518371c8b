use Rattle.std.proofs.Common.{refl, ap}
use Rattle.pl_events.specs.Seen.{Seen}
use Rattle.pl_events.specs.declared.event.What.TheVariants.{Cleared}
use Rattle.pl_course.proofs.Together.{cleared, course_on, clear_room, may_now, moved, clears_left, uncleared}
use Rattle.pl_core.proofs.held.Core.clear.Goals as goal

pub clear-requires-clause-room : goal.clear-requires-clause-room
clear-requires-clause-room c =
    clears_left c.model_laws.ensures c.self.inside.columns c.self.inside.history c.self.invariant c.args.seat c.args.at
    (may_now c.self.inside.columns c.self.inside.history c.args.self.now c.args.seat (Cleared c.args.at)
    c.self.view_is c.requires)

pub clear-requires-clause-uncleared : goal.clear-requires-clause-uncleared
clear-requires-clause-uncleared c =
    uncleared c.model_laws.ensures c.self.inside.columns c.self.inside.history c.self.invariant c.args.seat c.args.at
    (may_now c.self.inside.columns c.self.inside.history c.args.self.now c.args.seat (Cleared c.args.at)
    c.self.view_is c.requires)

pub push_reserved-requires : goal.push_reserved-requires
push_reserved-requires c =
    clear_room c.model_laws.ensures c.self.inside.columns c.self.inside.history c.self.invariant c.args.seat c.args.at
    (may_now c.self.inside.columns c.self.inside.history c.args.self.now c.args.seat (Cleared c.args.at)
    c.self.view_is c.requires)

pub invariant_of-self : goal.invariant_of-self
invariant_of-self c =
    moved (λ i. record c.self.inside.columns { records = c.clear.ensures i }) c.push_reserved.ensures
    (cleared c.model_laws.ensures c.self.inside.columns c.self.inside.history c.self.invariant c.args.seat c.args.at
    (may_now c.self.inside.columns c.self.inside.history c.args.self.now c.args.seat (Cleared c.args.at)
    c.self.view_is c.requires))

pub returns : goal.returns
returns c =
    course_on c.self.inside.columns (record c.self.inside.columns { records = c.clear.new.self }) c.self.inside.history c.push_reserved.new.self
    c.args.self.now c.args.seat (Cleared c.args.at) c.self.view_is refl (ap (λ (one : Seen). one.events) c.push_reserved.ensures)
