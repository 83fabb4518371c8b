use Rattle.std.proofs.Common.{None, Some, ◌∙◌, ap, sym}
use Rattle.pl_graph.specs.Edges.{first_out_of_order}
use Rattle.pl_graph.proofs.Order.{first_target, found_here, found_later, found_none, none_tells}
use Rattle.pl_graph.proofs.graph.Graph.in_order.Goals as goal

pub returns-in-Some-clause-first : goal.returns-in-Some-clause-first
returns-in-Some-clause-first c =
    found_here c.deref-targets-items.result.now c.loop-from.from c.targets-item.result c.loop-from.invariant c.loop-from-test.true
    c.targets-item.is c.in-Some.to (c.in-Some.ensures ∙ ap (first_target c.loop-from.from) c.as_slice.ensures)
    ∙ ap first_out_of_order (c.deref-targets-items.ensures.value ∙ c.self.view_is)

pub returns-in-Some-clause-none : goal.returns-in-Some-clause-none
returns-in-Some-clause-none c = none_tells c.args.self.now (Some (c.loop-from.from, c.in-Some.to)) (returns-in-Some-clause-first c)

pub loop-from-preserved : goal.loop-from-preserved
loop-from-preserved c =
    found_later c.deref-targets-items.result.now c.loop-from.from c.targets-item.result c.loop-from.invariant c.loop-from-test.true
    c.targets-item.is (sym c.in_default.is ∙ c.first_not_before.ensures ∙ ap (first_target c.loop-from.from) c.as_slice.ensures)

pub returns-clause-none : goal.returns-clause-none
returns-clause-none c =
    none_tells c.args.self.now None
    (found_none c.deref-targets-items.result.now c.loop-from.from c.loop-from.invariant c.loop-from-test.false
    ∙ ap first_out_of_order (c.deref-targets-items.ensures.value ∙ c.self.view_is))
