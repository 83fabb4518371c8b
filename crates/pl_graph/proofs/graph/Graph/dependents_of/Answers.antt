use Rattle.std.proofs.Common.{◌≡◌, ◌↔◌, ℕ, ◌++◌, ◌∷◌, [], Contains, List, Bool, true, ◌∙◌, ap, arith, if◌then◌else◌, length, subst, sym}
use Rattle.std.specs.List.{filter, range_with_len}
use Rattle.std.specs.List.Sorted.{IsStrictlyIncreasing}
use Rattle.pl_graph.specs.Edges.{dependents_of, refers}
use Rattle.pl_graph.proofs.Dependents.{dependents-refer, dependents-rise, dependents_more}
use Rattle.pl_graph.proofs.Members.{has}
use Rattle.pl_graph.proofs.graph.Graph.dependents_of.Goals as goal
use Rattle.pl_graph.proofs.graph.Graph.dependents_of.Goals.{then-contains+in_ok-push, else-contains}

pub loop-place-preserved : goal.loop-place-preserved
loop-place-preserved c =
    let step =
    dependents_more c.deref-targets-items.result.now c.args.row c.loop-place.place c.targets-item.result c.loop-place.found
    c.loop-place.invariant c.loop-place-test.true c.targets-item.is c.contains.result
    (c.contains.ensures.value ∙ ap (λ (targets : List ℕ). has targets c.args.row) c.as_slice.ensures) in
    let choice : Bool → List ℕ = λ b. if b then c.loop-place.found ++ c.loop-place.place ∷ [] else c.loop-place.found in
    elim c.if-contains.branch [
      | then-contains+in_ok-push w ↦ w.found-is ∙ w.in_ok-push.ensures.added ∙ sym (ap choice w.if-contains.true) ∙ step
      | else-contains w ↦ w.found-is ∙ sym (ap choice w.if-contains.false) ∙ step
    ]

pub returns-clause-listed : goal.returns-clause-listed
returns-clause-listed c =
    let end : c.loop-place.place ≡ length c.deref-targets-items.result.now = omega arith in
    c.loop-place.invariant
    ∙ ap (λ (n : ℕ). filter (λ other. refers c.deref-targets-items.result.now other c.args.row) (range_with_len 0 n)) end
    ∙ ap (λ (graph : List (List ℕ)). dependents_of graph c.args.row) (c.deref-targets-items.ensures.value ∙ c.self.view_is)

pub returns-clause-rising : goal.returns-clause-rising
returns-clause-rising c =
    subst (λ (rows : List ℕ). IsStrictlyIncreasing rows) (sym (returns-clause-listed c)) (dependents-rise c.args.self.now c.args.row)

pub returns-clause-referring : goal.returns-clause-referring
returns-clause-referring c =
    subst (λ (rows : List ℕ). (other : ℕ) → Contains rows other ↔ (refers c.args.self.now other c.args.row ≡ true))
    (sym (returns-clause-listed c)) (dependents-refer c.args.self.now c.args.row)
