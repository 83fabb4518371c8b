use Rattle.std.proofs.Common.{◌≡◌, ◌<◌, ℕ, Bool, List, Option, Some, None, Bor, ap, get_or, length, option_map, reverse, rules, sym, subst, take, ◌∙◌}
use Rattle.pl_state.specs.Chain.{last_of_urn}
use Rattle.pl_state.specs.declared.entry.Entry.{Entry}
use Rattle.pl_refresh.specs.Refreshed.{is_there, nearest}
use Rattle.pl_refresh.proofs.Above.{parent_told, parents_inside}
use Rattle.pl_refresh.proofs.Ancestors.{Climbing, climbing_ended, climbing_found, climbing_inside, climbing_on, parent_lower, rows_to}
use Rattle.pl_refresh.proofs.ancestry.climbed.Goals as goal

abbrev urn_of : Option (Bor (List ℕ)) → Option (List ℕ)
urn_of urn = option_map (λ it. it.now) urn

-- climbing at the place that was found
at_found : (there : List ℕ → Bool) (rows : List Entry) (urn : Option (List ℕ)) (place : Option ℕ) (at : ℕ) (wanted : Option (List ℕ)) → place ≡ Some at → Climbing there rows urn place wanted → Climbing there rows urn (Some at) wanted
at_found there rows urn place at wanted is climbing = subst (λ (o : Option ℕ). Climbing there rows urn o wanted) is climbing

pub returns-then-is_found : goal.returns-then-is_found
returns-then-is_found c =
    climbing_found (is_there c.args.standing.now) c.args.rows.now (urn_of c.loop-place.urn) c.loop-place.place _ (sym c.is_found.ensures ∙ c.if-is_found.true) c.loop-place.invariant

pub bounds-rows-at : goal.bounds-rows-at
bounds-rows-at c =
    climbing_inside (is_there c.args.standing.now) c.args.rows.now (urn_of c.loop-place.urn) c.in-Some.at _
    (at_found (is_there c.args.standing.now) c.args.rows.now (urn_of c.loop-place.urn) c.loop-place.place c.in-Some.at _ c.in-Some.is c.loop-place.invariant)

pub offset_bounds-rows-at : goal.offset_bounds-rows-at
offset_bounds-rows-at c =
    let inside : c.in-Some.at < length c.args.rows.now =
    climbing_inside (is_there c.args.standing.now) c.args.rows.now (urn_of c.loop-place.urn) c.in-Some.at (nearest (is_there c.args.standing.now) (reverse c.args.rows.now) (urn_of c.args.urn))
    (at_found (is_there c.args.standing.now) c.args.rows.now (urn_of c.loop-place.urn) c.loop-place.place c.in-Some.at _ c.in-Some.is c.loop-place.invariant) in
    search rules

pub bounds-parents-at : goal.bounds-parents-at
bounds-parents-at c =
    parents_inside c.args.rows.now c.args.parents.now c.in-Some.at c.requires.parents
    (climbing_inside (is_there c.args.standing.now) c.args.rows.now (urn_of c.loop-place.urn) c.in-Some.at _
    (at_found (is_there c.args.standing.now) c.args.rows.now (urn_of c.loop-place.urn) c.loop-place.place c.in-Some.at _ c.in-Some.is c.loop-place.invariant))

pub offset_bounds-parents-at : goal.offset_bounds-parents-at
offset_bounds-parents-at c =
    let inside : c.in-Some.at < length c.args.parents.now =
    parents_inside c.args.rows.now c.args.parents.now c.in-Some.at c.requires.parents
    (climbing_inside (is_there c.args.standing.now) c.args.rows.now (urn_of c.loop-place.urn) c.in-Some.at (nearest (is_there c.args.standing.now) (reverse c.args.rows.now) (urn_of c.args.urn))
    (at_found (is_there c.args.standing.now) c.args.rows.now (urn_of c.loop-place.urn) c.loop-place.place c.in-Some.at _ c.in-Some.is c.loop-place.invariant)) in
    search rules

pub loop-place-smaller : goal.loop-place-smaller
loop-place-smaller c =
    let rows : List Entry = c.args.rows.now in
    let at : ℕ = c.in-Some.at in
    let row : Entry = c.index-rows-at.result in
    let inside : at < length rows =
    climbing_inside (is_there c.args.standing.now) rows (urn_of c.loop-place.urn) at (nearest (is_there c.args.standing.now) (reverse rows) (urn_of c.args.urn))
    (at_found (is_there c.args.standing.now) rows (urn_of c.loop-place.urn) c.loop-place.place at _ c.in-Some.is c.loop-place.invariant) in
    let up : get_or c.args.parents.now at None ≡ last_of_urn row.parent (take at rows) = parent_told rows c.args.parents.now at row c.requires.parents inside c.index-rows-at.is in
    subst (λ (o : Option ℕ). rows_to (get_or c.args.parents.now at None) < rows_to o) (sym c.in-Some.is)
    (parent_lower row.parent rows at (get_or c.args.parents.now at None) up inside)

pub loop-place-preserved : goal.loop-place-preserved
loop-place-preserved c =
    let there : List ℕ → Bool = is_there c.args.standing.now in
    let rows : List Entry = c.args.rows.now in
    let at : ℕ = c.in-Some.at in
    let row : Entry = c.index-rows-at.result in
    let urn : Option (List ℕ) = urn_of c.loop-place.urn in
    let wanted : Option (List ℕ) = nearest there (reverse rows) (urn_of c.args.urn) in
    let above : Option ℕ = get_or c.args.parents.now at None in
    let here : Climbing there rows urn (Some at) wanted = at_found there rows urn c.loop-place.place at wanted c.in-Some.is c.loop-place.invariant in
    let inside : at < length rows = climbing_inside there rows urn at wanted here in
    let up : above ≡ last_of_urn row.parent (take at rows) = parent_told rows c.args.parents.now at row c.requires.parents inside c.index-rows-at.is in
    subst (λ (o : Option (List ℕ)). Climbing there rows o above wanted) (sym (c.as_ref-urn.ensures.value ∙ ap (λ (entry : Entry). entry.parent) (sym c.index-rows-at.is)))
    (climbing_on there rows row urn at above wanted (sym c.is_found.ensures ∙ c.if-is_found.false) c.index-rows-at.is up here)

pub returns : goal.returns
returns c =
    let there : List ℕ → Bool = is_there c.args.standing.now in
    let rows : List Entry = c.args.rows.now in
    let urn : Option (List ℕ) = urn_of c.loop-place.urn in
    let wanted : Option (List ℕ) = nearest there (reverse rows) (urn_of c.args.urn) in
    c.if_there.ensures
    ∙ climbing_ended there rows urn wanted (subst (λ (o : Option ℕ). Climbing there rows urn o wanted) c.in_default.is c.loop-place.invariant)
