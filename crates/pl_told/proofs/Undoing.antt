-- What is taken back leaves what was there before.
use Rattle.std.proofs.Common.{◌≡◌, true, ◌++◌, drop, length, None, refl}
use Rattle.std.proofs.lemmas.List.Prefix.{front_rest}
use Rattle.pl_told.specs.Column.{Change, Kept, made_by, prepared, retracted, with_change}

pub undone : (change : Change) (kept : Kept) → retracted (with_change change (prepared kept)) ≡ prepared kept
undone change kept =
    let goals : drop (length (made_by change)) (made_by change ++ kept.goals) ≡ kept.goals =
    front_rest (made_by change ++ kept.goals) (made_by change) kept.goals refl in
    λ i. record { goals = goals i; asked = kept.asked; ready = true; newest = None }
