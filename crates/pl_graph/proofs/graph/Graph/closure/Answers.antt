use Rattle.std.proofs.Common.{◌≡◌, ◌↔◌, ℕ, ◌+◌, ◌==◌, ◌||◌, ◌++◌, ◌∷◌, [], Contains, List, Bool, false, get_or, ◌∙◌, ap, arith, if◌then◌else◌, length, length-append, subst, sym}
use Rattle.std.specs.List.{list_any}
use Rattle.std.specs.List.Sorted.{IsStrictlyIncreasing}
use Rattle.pl_graph.specs.Closure.{closure_among, closure_of, Reaches}
use Rattle.pl_graph.specs.Edges.{refers}
use Rattle.pl_graph.proofs.Closures.{closure-apart, closure-reaches, closure-rises, listed_more, told_more}
use Rattle.pl_graph.proofs.Members.{has}
use Rattle.pl_graph.proofs.graph.Graph.closure.Goals as goal
use Rattle.pl_graph.proofs.graph.Graph.closure.Goals.{then-joined+in_ok-push, else-joined}

-- what is told of the targets is told of the row that was read
marked : (c : goal.In_ok-push-2)
    → c.joins-joined.result ≡ list_any (λ target. target == c.args.row || get_or c.loop-place.marks.items target false) c.targets-item.result
marked c =
    c.joins-joined.ensures
    ∙ ap (λ (marks : List Bool). list_any (λ target. target == c.args.row || get_or marks target false) c.as_slice.result.now) c.deref.ensures.value
    ∙ ap (λ (targets : List ℕ). list_any (λ target. target == c.args.row || get_or c.loop-place.marks.items target false) targets) c.as_slice.ensures

-- the row was put behind those that were found just where it joins them
reaching_now : (c : goal.In_ok-push-2)
    → c.if-joined.reaching ≡ (if c.joins-joined.result then c.loop-place.reaching ++ c.loop-place.place ∷ [] else c.loop-place.reaching)
reaching_now c =
    let choice : Bool → List ℕ = λ b. if b then c.loop-place.reaching ++ c.loop-place.place ∷ [] else c.loop-place.reaching in
    elim c.if-joined.branch [
      | then-joined+in_ok-push w ↦ w.reaching-is ∙ w.in_ok-push.ensures.added ∙ sym (ap choice w.if-joined.true)
      | else-joined w ↦ w.reaching-is ∙ sym (ap choice w.if-joined.false)
    ]

pub loop-place-preserved : goal.loop-place-preserved
loop-place-preserved c = record {
  listed =
      reaching_now c
      ∙ listed_more c.deref-targets-items.result.now c.args.row c.loop-place.place c.loop-place.reaching c.targets-item.result
      c.loop-place.marks.items c.joins-joined.result c.loop-place.invariant.listed c.loop-place.invariant.count
      c.loop-place.invariant.told c.loop-place-test.true c.targets-item.is (marked c);
  count =
      ap length c.in_ok-push-2.ensures.items
      ∙ length-append c.loop-place.marks.items (c.joins-joined.result ∷ [])
      ∙ ap (λ (n : ℕ). n + 1) c.loop-place.invariant.count;
  told = λ k.
      ap (λ (marks : List Bool). get_or marks k false) c.in_ok-push-2.ensures.items
      ∙ told_more c.deref-targets-items.result.now c.args.row c.loop-place.place c.loop-place.reaching c.targets-item.result
      c.loop-place.marks.items c.joins-joined.result c.loop-place.invariant.listed c.loop-place.invariant.count
      c.loop-place.invariant.told c.loop-place-test.true c.targets-item.is (marked c) k
      ∙ ap (λ (rows : List ℕ). has rows k) (sym (reaching_now c));
}

pub returns-clause-listed : goal.returns-clause-listed
returns-clause-listed c =
    let end : c.loop-place.place ≡ length c.deref-targets-items.result.now = omega arith in
    c.loop-place.invariant.listed
    ∙ ap (λ (n : ℕ). closure_among (refers c.deref-targets-items.result.now) c.args.row n) end
    ∙ ap (λ (graph : List (List ℕ)). closure_of graph c.args.row) (c.deref-targets-items.ensures.value ∙ c.self.view_is)

pub returns-clause-rising : goal.returns-clause-rising
returns-clause-rising c =
    subst (λ (rows : List ℕ). IsStrictlyIncreasing rows) (sym (returns-clause-listed c)) (closure-rises c.args.self.now c.args.row)

pub returns-clause-reaching : goal.returns-clause-reaching
returns-clause-reaching c =
    subst (λ (rows : List ℕ). (other : ℕ) → Contains rows other ↔ Reaches c.args.self.now other c.args.row)
    (sym (returns-clause-listed c)) (closure-reaches c.args.self.now c.args.row c.requires)

pub returns-clause-apart : goal.returns-clause-apart
returns-clause-apart c =
    subst (λ (rows : List ℕ). Contains rows c.args.row → ⊥) (sym (returns-clause-listed c)) (closure-apart c.args.self.now c.args.row c.requires)
