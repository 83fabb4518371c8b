-- The first edge that is out of order, and that there is none just where each row refers to rows before it alone.
use Rattle.std.proofs.Common.{◌≡◌, ℕ, zero, suc, ◌+◌, ◌<◌, ◌≤◌, ◌==◌, Bool, true, false, cond, ◌⊎◌, ◌↔◌, inl, inr, List, [], ◌∷◌, drop, length, get_or, map, Option, Some, None, refl, sym, ◌∙◌, ap, arith, drop-cons, add-one}
use Rattle.std.proofs.lemmas.Bool.{cases_Bool, eq-eqb, eqb-true, leb-false, lt-leb, or_cases, or_left, or_right}
use Rattle.std.proofs.lemmas.List.{drop_all, get_or_default, get_or_past}
use Rattle.std.proofs.lemmas.List.Folds.{find-append}
use Rattle.std.specs.Prelude.{nat_le}
use Rattle.std.specs.List.{find}
use Rattle.std.specs.Option.{option_map, option_or, is_some, IsNone}
use Rattle.pl_lemmas.proofs.Options.{neither}
use Rattle.pl_graph.specs.Edges.{edges_from, first_out_of_order, is_out_of_order, IsInOrder}
use Rattle.pl_graph.proofs.Members.{has}

-- the first of some targets that isn't before a row
abbrev pub first_target : ℕ → List ℕ → Option ℕ
first_target row targets = find (λ target. nat_le row target) targets

-- the edge to that target
abbrev pub edge_to : ℕ → Option ℕ → Option (ℕ × ℕ)
edge_to row target = option_map (λ to. (row, to)) target

-- the first edge out of order of one row
pub first_of_row : (row : ℕ) (targets : List ℕ)
    → find is_out_of_order (map (λ target. (row, target)) targets) ≡ edge_to row (first_target row targets)
first_of_row row [] = refl
first_of_row row (target ∷ others) = by (nat_le row target) (first_of_row row others)
  where
    by : (b : Bool) → find is_out_of_order (map (λ to. (row, to)) others) ≡ edge_to row (first_target row others)
        → cond b (Some (row, target)) (find is_out_of_order (map (λ to. (row, to)) others))
        ≡ edge_to row (cond b (Some target) (first_target row others))
    by true rest = refl
    by false rest = rest

-- the first edge out of order of rows that follow one another
pub first_of_rows : (row : ℕ) (targets : List ℕ) (others : List (List ℕ))
    → find is_out_of_order (edges_from row (targets ∷ others))
    ≡ option_or (edge_to row (first_target row targets)) (find is_out_of_order (edges_from (suc row) others))
first_of_rows row targets others =
    find-append is_out_of_order (map (λ target. (row, target)) targets) (edges_from (suc row) others)
    ∙ ap (λ (edge : Option (ℕ × ℕ)). option_or edge (find is_out_of_order (edges_from (suc row) others))) (first_of_row row targets)

-- and from a row of a graph on
pub first_from : (graph : List (List ℕ)) (row : ℕ) → row < length graph
    → find is_out_of_order (edges_from row (drop row graph))
    ≡ option_or (edge_to row (first_target row (get_or graph row []))) (find is_out_of_order (edges_from (row + 1) (drop (row + 1) graph)))
first_from graph row low =
    ap (λ (rows : List (List ℕ)). find is_out_of_order (edges_from row rows)) (drop-cons graph row [] low)
    ∙ first_of_rows row (get_or graph row []) (drop (suc row) graph)
    ∙ ap (λ (next : ℕ). option_or (edge_to row (first_target row (get_or graph row []))) (find is_out_of_order (edges_from next (drop next graph)))) (sym (add-one row))

-- ---- none

none_below : (row : ℕ) (targets : List ℕ) → first_target row targets ≡ None → (to : ℕ) → has targets to ≡ true → to < row
none_below row [] none to h = absurd (let e : false ≡ true = h in cc)
none_below row (target ∷ others) none to h = by (cases_Bool (nat_le row target)) (or_cases (target == to) (has others to) h) (none_below row others)
  where
    by : (nat_le row target ≡ true) ⊎ (nat_le row target ≡ false) → ((target == to) ≡ true) ⊎ (has others to ≡ true)
        → (first_target row others ≡ None → (to : ℕ) → has others to ≡ true → to < row) → to < row
    by (inl late) _ rest =
        absurd (let e : Some target ≡ None = sym (ap (λ (b : Bool). cond b (Some target) (first_target row others)) late) ∙ none in cc)
    by (inr early) (inl same) rest =
        let equal : target ≡ to = eqb-true target to same in
        let less : target < row = leb-false row target early in
        omega arith
    by (inr early) (inr later) rest =
        rest (sym (ap (λ (b : Bool). cond b (Some target) (first_target row others)) early) ∙ none) to later

below_none : (row : ℕ) (targets : List ℕ) → ((to : ℕ) → has targets to ≡ true → to < row) → first_target row targets ≡ None
below_none row [] below = refl
below_none row (target ∷ others) below =
    ap (λ (b : Bool). cond b (Some target) (first_target row others))
    (lt-leb row target (below target (or_left (target == target) (has others target) (eq-eqb target target refl))))
    ∙ below_none row others (λ to h. below to (or_right (target == to) (has others to) h))

no_target : (row : ℕ) (target : Option ℕ) → edge_to row target ≡ None → target ≡ None
no_target row None h = refl
no_target row (Some to) h = absurd (let e : Some (row, to) ≡ None = h in cc)

-- where no edge of the rows is out of order, each goes to a row before
none_late : (row : ℕ) (rows : List (List ℕ)) → find is_out_of_order (edges_from row rows) ≡ None
    → (place to : ℕ) → has (get_or rows place []) to ≡ true → to < row + place
none_late row [] none place to h = absurd (let e : false ≡ true = ap (λ (targets : List ℕ). has targets to) (sym (get_or_past [] place [] (omega arith))) ∙ h in cc)
none_late row (targets ∷ others) none zero to h =
    let parts = neither _ _ (sym (first_of_rows row targets others) ∙ none) in
    here (none_below row targets (no_target row _ parts.0) to h)
  where
    here : to < row → to < row + 0
    here less = omega arith
none_late row (targets ∷ others) none (suc place) to h =
    let parts = neither _ _ (sym (first_of_rows row targets others) ∙ none) in
    later (none_late (suc row) others parts.1 place to h)
  where
    later : to < suc row + place → to < row + suc place
    later less = omega arith

-- and the other way round
late_none : (row : ℕ) (rows : List (List ℕ)) → ((place to : ℕ) → has (get_or rows place []) to ≡ true → to < row + place)
    → find is_out_of_order (edges_from row rows) ≡ None
late_none row [] below = refl
late_none row (targets ∷ others) below =
    first_of_rows row targets others
    ∙ ap (λ (target : Option ℕ). option_or (edge_to row target) (find is_out_of_order (edges_from (suc row) others)))
    (below_none row targets (λ to h. let less : to < row + 0 = below 0 to h in omega arith))
    ∙ late_none (suc row) others (λ place to h. let less : to < row + suc place = below (suc place) to h in omega arith)

none_in_order : (graph : List (List ℕ)) → first_out_of_order graph ≡ None → IsInOrder graph
none_in_order graph none from to h =
    let less : to < 0 + from = none_late 0 graph none from to h in
    omega arith

in_order_none : (graph : List (List ℕ)) → IsInOrder graph → first_out_of_order graph ≡ None
in_order_none graph order =
    late_none 0 graph (λ place to h. let less : to < place = order place to h in omega arith)

is_none : (edge : Option (ℕ × ℕ)) → IsNone edge → edge ≡ None
is_none None h = refl
is_none (Some found) h = absurd (let e : true ≡ false = h in cc)

-- the first edge out of order is none just where the graph is in order
pub none_tells : (graph : List (List ℕ)) (edge : Option (ℕ × ℕ)) → edge ≡ first_out_of_order graph → IsNone edge ↔ IsInOrder graph
none_tells graph edge is = (
  λ none. none_in_order graph (sym is ∙ is_none edge none),
  λ order. ap (λ (e : Option (ℕ × ℕ)). is_some e) (is ∙ in_order_none graph order),
)

-- ---- a step of the way through the rows

module _ (graph : List (List ℕ)) (row : ℕ) (targets : List ℕ)
    (so_far : first_out_of_order graph ≡ find is_out_of_order (edges_from row (drop row graph)))
    (low : row < length graph) (here : targets ≡ get_or graph row targets) where
  step : first_out_of_order graph
      ≡ option_or (edge_to row (first_target row targets)) (find is_out_of_order (edges_from (row + 1) (drop (row + 1) graph)))
  step =
      so_far
      ∙ first_from graph row low
      ∙ ap (λ (ts : List ℕ). option_or (edge_to row (first_target row ts)) (find is_out_of_order (edges_from (row + 1) (drop (row + 1) graph))))
      (get_or_default graph row [] targets low ∙ sym here)

  pub found_here : (to : ℕ) → Some to ≡ first_target row targets → Some (row, to) ≡ first_out_of_order graph
  found_here to is =
      sym (step ∙ ap (λ (target : Option ℕ). option_or (edge_to row target) (find is_out_of_order (edges_from (row + 1) (drop (row + 1) graph)))) (sym is))

  pub found_later : None ≡ first_target row targets
      → first_out_of_order graph ≡ find is_out_of_order (edges_from (row + 1) (drop (row + 1) graph))
  found_later is =
      step ∙ ap (λ (target : Option ℕ). option_or (edge_to row target) (find is_out_of_order (edges_from (row + 1) (drop (row + 1) graph)))) (sym is)

-- behind the last row there is no edge
pub found_none : (graph : List (List ℕ)) (row : ℕ) → first_out_of_order graph ≡ find is_out_of_order (edges_from row (drop row graph))
    → length graph ≤ row → None ≡ first_out_of_order graph
found_none graph row so_far past =
    sym (so_far ∙ ap (λ (rows : List (List ℕ)). find is_out_of_order (edges_from row rows)) (drop_all row graph past))
