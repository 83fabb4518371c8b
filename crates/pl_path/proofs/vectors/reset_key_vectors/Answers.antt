use Rattle.std.proofs.Common.{◌≡◌, ℕ, List, [], ◌∷◌, Option, Some, codes, refl, ap, ◌∙◌}
use Rattle.pl_path.proofs.Levels.{reset_in-Object, reset_in-Secret}
use Rattle.pl_path.specs.Found.{found_at}
use Rattle.pl_path.specs.Reset.{reset_in, unless_too_deep}
use Rattle.pl_path.specs.declared.segment.Segment.TheVariants.{Key}
use Rattle.pl_value.specs.declared.value.Value.{Value}
use Rattle.pl_value.specs.declared.value.Value.TheVariants as value
use Rattle.pl_path.proofs.OnLiterals.{path_on_literals, value_equations}
use Rattle.pl_path.proofs.vectors.reset_key_vectors.Goals as goal

pub returns-clause-taken_out : goal.returns-clause-taken_out
unfolding path_on_literals
returns-clause-taken_out c = refl

pub returns-clause-put : goal.returns-clause-put
unfolding path_on_literals
returns-clause-put c = simp value_equations refl

pub returns-clause-put_in_order : goal.returns-clause-put_in_order
unfolding path_on_literals
returns-clause-put_in_order c = simp value_equations refl

abbrev key : List ℕ
key = codes "a"

abbrev sealed : Value → Value
sealed put = value.Secret (value.Object ((key, put) ∷ []))

abbrev before : List (List ℕ × Value)
before = (codes "s", sealed value.Null) ∷ []

abbrev older : List (List ℕ × Value)
older = (codes "s", value.Object ((key, value.Secret value.Unknown) ∷ [])) ∷ []

-- what stands at the path in the older fields
found : found_at (Key (codes "s") ∷ Key key ∷ []) older ≡ Some (value.Secret value.Unknown)
found = simp value_equations refl

-- the secret's object is set back, and the secret stays
opened : reset_in (Key key ∷ []) (Some (value.Secret value.Unknown)) (sealed value.Null) ≡ sealed (value.Secret value.Unknown)
opened =
    reset_in-Secret (Key key) [] (Some (value.Secret value.Unknown)) (value.Object ((key, value.Null) ∷ []))
    ∙ ap value.Secret (reset_in-Object (Key key) [] (Some (value.Secret value.Unknown)) ((key, value.Null) ∷ []))

-- the field is set back to what was found
once_found : Option Value → List (List ℕ × Value)
once_found old = unless_too_deep before ((codes "s", reset_in (Key key ∷ []) old (sealed value.Null)) ∷ [])

shallow : unless_too_deep before ((codes "s", sealed (value.Secret value.Unknown)) ∷ []) ≡ (codes "s", sealed (value.Secret value.Unknown)) ∷ []
shallow = simp value_equations refl

pub returns-clause-in_secret : goal.returns-clause-in_secret
unfolding path_on_literals once_found
returns-clause-in_secret c =
    ap once_found found ∙ ap (λ put. unless_too_deep before ((codes "s", put) ∷ [])) opened ∙ shallow

pub returns-clause-no_way_in_old : goal.returns-clause-no_way_in_old
unfolding path_on_literals
returns-clause-no_way_in_old c = simp value_equations refl

pub returns-clause-no_holder : goal.returns-clause-no_holder
unfolding path_on_literals
returns-clause-no_holder c = simp value_equations refl
