-- What one turn adds to a list.
use Rattle.std.proofs.Common.{◌≡◌, ℕ, Bool, true, false, zero, suc, if◌then◌else◌, nat_lt, ◌^◌, List, [], ◌∷◌, ◌++◌, length, All, refl, sym, subst, arith}
use Rattle.pl_desk.specs.Rule.{Grows}
use Rattle.pl_desk_speed.specs.Told.{one_more}

all_once : (b : Bool) (seat : ℕ) → All (λ l. l ≡ seat) (if b then seat ∷ [] else [])
all_once true seat zero d low = refl
all_once true seat (suc k) d low = absurd (omega arith)
all_once false seat k d low = absurd (omega arith)

-- it is of its seat
pub grows_once : (seat n : ℕ) (xs seen ys : List ℕ) → seat ≡ n → xs ≡ seen → ys ≡ xs ++ one_more seat (length xs) → Grows (λ n. n) n seen ys
grows_once seat n xs seen ys one same is =
    subst (λ (m : ℕ). Grows (λ n. n) m seen ys) one (subst (λ (ws : List ℕ). Grows (λ n. n) seat ws ys) same
    (one_more seat (length xs), sym is, all_once (nat_lt (length xs) (2 ^ 60)) seat))
