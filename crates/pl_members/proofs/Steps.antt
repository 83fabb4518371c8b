-- What is read step by step.
use Rattle.std.proofs.Common.{◌≡◌, Option, Some, None, option_map, option_and_then, refl, subst}

-- the value that was read, if there is one, is such a value
abbrev pub Gives : {A : Type 0} → (A → Type 0) → Option A → Type 0
Gives P None = Unit {0}
Gives P (Some found) = P found

pub gives : {A : Type 0} (P : A → Type 0) (o : Option A) (found : A) → Gives P o → o ≡ Some found → P found
gives P None found all is = cc
gives P (Some one) found all is = let same : one ≡ found = cc in subst P same all

pub gives_next : {A B : Type 0} (P : B → Type 0) (o : Option A) (next : A → Option B) → ((one : A) → o ≡ Some one → Gives P (next one)) → Gives P (option_and_then next o)
gives_next P None next each = tt
gives_next P (Some one) next each = each one refl

pub gives_map : {A B : Type 0} (P : B → Type 0) (o : Option A) (made : A → B) → ((one : A) → o ≡ Some one → P (made one)) → Gives P (option_map made o)
gives_map P None made each = tt
gives_map P (Some one) made each = each one refl
