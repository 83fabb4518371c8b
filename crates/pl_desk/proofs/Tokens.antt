-- A seat's token, from what it knows and back.
use Rattle.std.proofs.Common.{◌≡◌, ℕ, Bool, true, false, List, [], ◌∷◌, ◌++◌, length, drop, Option, Some, None, refl, ap, sym, ◌∙◌}
use Rattle.atomic_table.specs.Table.{Me, rest}
use Rattle.pl_desk.specs.declared.board.View.{View}
use Rattle.pl_desk.specs.declared.board.Place.{Place}
use Rattle.pl_desk.specs.declared.board.Place.TheVariants.{Live, Spent}
use Rattle.pl_desk.specs.Posed.{is_live, number_in, turn_in, seen_in, mine_in, facing, hand}
use Rattle.pl_desk.specs.Rule.{Grows}
use Rattle.pl_desk.proofs.Lines.{grown_own}

abbrev pub M : Type 0 → Type 0
M J = Me (Option J) (Place J)

-- what the ghost field of a seat says
abbrev pub IsSeated : {J : Type 0} → M J → Type 0
IsSeated m = (is_live m.0 ≡ true) × (m.1 ≡ hand (turn_in m.0))

module _ {J : Type 0} where
  live_view : (p : Place J) → is_live p ≡ true → (v : View J) × (p ≡ Live v)
  live_view Spent e = absurd (cc e)
  live_view (Live v) e = (v, refl)

  -- the view of a seat, and the slots that it has
  pub posed : (m : M J) → IsSeated m → (b : Bool) → turn_in m.0 ≡ b → (v : View J) × (◌≡◌ {A = M J} m (Live v, hand b)) × (v.turn ≡ b)
  posed m s b on = let k = live_view m.0 s.0 in (k.0, (λ i. (k.1 i, (s.1 ∙ ap hand on) i)), sym (ap turn_in k.1) ∙ on)

  pub seated : (m : M J) (v : View J) → ◌≡◌ {A = M J} m (Live v, hand v.turn) → IsSeated m
  seated m v is = (ap (λ (z : M J). is_live z.0) is, ap (λ (z : M J). z.1) is ∙ ap (λ (z : M J). hand (turn_in z.0)) (sym is))

  pub seated_again : (m m' : M J) → IsSeated m → m' ≡ m → IsSeated m'
  seated_again m m' s same = (ap (λ (z : M J). is_live z.0) same ∙ s.0, ap (λ (z : M J). z.1) same ∙ (s.1 ∙ ap (λ (z : M J). hand (turn_in z.0)) (sym same)))

  pub swapped : (m m' : M J) (v : View J) (a b : Option J) → ◌≡◌ {A = M J} m (Live v, (0, a) ∷ []) → ◌≡◌ {A = M J} m' (m.0, (0, b) ∷ rest m.1) → ◌≡◌ {A = M J} m' (Live v, (0, b) ∷ [])
  swapped m m' v a b is to = to ∙ ap (λ (z : M J). let w : M J = (z.0, (0, b) ∷ rest z.1) in w) is

  -- what the take leaves a seat with that had no slot
  pub took_one : (m m' : M J) (v w : View J) (a : Option J) → ◌≡◌ {A = M J} m (Live v, []) → ◌≡◌ {A = M J} m' (Live w, (0, a) ∷ m.1) → ◌≡◌ {A = M J} m' (Live w, (0, a) ∷ [])
  took_one m m' v w a is to = to ∙ ap (λ (z : M J). let u : M J = (Live w, (0, a) ∷ z.1) in u) is

-- the seat with the turn, once the item y lies in the slot that it holds
pub holding : {J : Type 0} (m m' : M J) (y : J) → IsSeated m → turn_in m.0 ≡ true → ◌≡◌ {A = M J} m' (m.0, (0, Some y) ∷ rest m.1) → (v : View J) × (m.0 ≡ Live v) × (v.turn ≡ true) × (◌≡◌ {A = M J} m' (Live v, (0, Some y) ∷ []))
holding {J} m m' y s on to = let k = posed m s true on in (k.0, ap (λ (z : M J). z.0) k.1, k.2, swapped m m' k.0 None (Some y) k.1 to)

-- the own lines once the item y was given back
pub mine_after : {J L : Type 0} (lines : J → List L) (f : L → ℕ) (p q : Place J) (y : J) → turn_in p ≡ true → Grows f (number_in p) (seen_in lines p) (lines y) → q ≡ facing y false p → mine_in lines f q ≡ mine_in lines f p ++ drop (length (seen_in lines p)) (lines y)
mine_after lines f Spent q y on grows is = absurd (cc on)
mine_after lines f (Live v) q y on grows is = ap (mine_in lines f) is ∙ grown_own f v.number (lines v.last) (lines y) grows
