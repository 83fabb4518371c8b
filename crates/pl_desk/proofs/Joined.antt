-- The first seat once it took another in.
use Rattle.std.proofs.Common.{◌≡◌, ℕ, Bool, true, false, List, [], ◌∷◌, length, Some, refl, ap, sym, ◌∙◌, subst}
use Rattle.std.specs.Prelude.{cond, nat_lt}
use mathlib.Core.List.{IsPrefix}
use mathlib.Core.Option.{none}
use Rattle.atomic_table.specs.Table.{step, Allows, Joins}
use Rattle.pl_desk.specs.declared.board.View.{View}
use Rattle.pl_desk.specs.declared.board.Place.{Place}
use Rattle.pl_desk.specs.declared.board.Place.TheVariants.{Live, Spent}
use Rattle.pl_desk.specs.Posed.{number_in, made_in, turn_in, origin_in, seen_in, mine_in, gathered_in, shown_in, met_in, hand, longer}
use Rattle.pl_desk.specs.Rule.{Kept, glued, later, learned, GoesOn}
use Rattle.pl_desk.proofs.Tokens.{M, IsSeated, posed, seated}
use Rattle.pl_desk.proofs.Steps.{joins_at, learns_ok}

-- the view v with what w knew last among what it took in
abbrev with_taken : {J : Type 0} → View J → View J → View J
with_taken v w = record v { gathered = (w.number, w.last) ∷ v.gathered }

lines_of_choice : {A B : Type 0} (h : A → B) (b : Bool) (z x : A) → h (cond b z x) ≡ cond b (h z) (h x)
lines_of_choice h true z x = refl
lines_of_choice h false z x = refl

module _ {J O L : Type 0} (origin : J → O) (lines : J → List L) (f : L → ℕ) where
  pub join_allowed : (m o : M J) → IsSeated m → IsSeated o → turn_in m.0 ≡ false → turn_in o.0 ≡ false → (id other : ℕ) → (o.1 ≡ []) × Joins (Kept origin lines f) id m.0 other o.0 (glued m.0 o.0) Spent
  join_allowed m o s so off offo id other = let a = posed m s false off in let b = posed o so false offo in
      (ap (λ (z : M J). z.1) b.1, joins_at origin lines f id m.0 a.0 other o.0 b.0 (ap (λ (z : M J). z.0) a.1) (ap (λ (z : M J). z.0) b.1) a.2 b.2)

  -- the seat's token between the two steps
  between_steps : (m o m' : M J) (v w : View J) → ◌≡◌ {A = M J} m (Live v, []) → ◌≡◌ {A = M J} o (Live w, []) → ◌≡◌ {A = M J} m' (glued m.0 o.0, m.1) → ◌≡◌ {A = M J} m' (Live (with_taken v w), [])
  between_steps m o m' v w is iso to = to ∙ (λ i. let z : M J = (glued (is i).0 (iso i).0, (is i).1) in z)

  pub learn_allowed : (m o m' : M J) → IsSeated m → IsSeated o → turn_in m.0 ≡ false → turn_in o.0 ≡ false → ◌≡◌ {A = M J} m' (glued m.0 o.0, m.1) → (slots id : ℕ)
      → Allows (Kept origin lines f) slots id m' 0 (λ n. n) (learned origin lines f (step slots 0 0 0 none) m')
  learn_allowed m o m' s so off offo to slots id = let a = posed m s false off in let b = posed o so false offo in
      learns_ok origin lines f slots id m' (with_taken a.0 b.0) (b.0.number, b.0.last) a.0.gathered (between_steps m o m' a.0 b.0 a.1 b.1 to) a.2 refl

  pub record TookIn (p q r : Place J) : Type 0 where
    pub same : (number_in r ≡ number_in p) × (made_in r ≡ made_in p)
    pub origin_same : origin_in origin r ≡ origin_in origin p
    pub seen : seen_in lines r ≡ longer (seen_in lines p) (seen_in lines q)
    pub begins : IsPrefix (seen_in lines p) (seen_in lines r) × IsPrefix (seen_in lines q) (seen_in lines r)
    pub mine : mine_in lines f r ≡ mine_in lines f p
    pub loads : (shown_in r ≡ shown_in p) × (met_in r ≡ met_in p)
    pub gathered : gathered_in lines f r ≡ (number_in q, mine_in lines f q) ∷ gathered_in lines f p

  took_live : (v w : View J) → GoesOn origin lines f v.number v.last (later lines v.last w.last) → IsPrefix (lines w.last) (lines (later lines v.last w.last))
      → TookIn (Live v) (Live w) (Live record (with_taken v w) { last = later lines v.last w.last })
  took_live v w on begins = record {
    same = (refl, refl);
    origin_same = ap Some (sym on.0);
    seen = lines_of_choice lines (nat_lt (length (lines v.last)) (length (lines w.last))) w.last v.last;
    begins = (on.1, begins);
    mine = sym on.2;
    loads = (refl, refl);
    gathered = refl;
  }

  pub record Taken (m o m'' : M J) : Type 0 where
    pub seated : IsSeated m''
    pub turn : turn_in m''.0 ≡ false
    pub took : TookIn m.0 o.0 m''.0

  pub took_in : (m o m' m'' : M J) → IsSeated m → IsSeated o → turn_in m.0 ≡ false → turn_in o.0 ≡ false → ◌≡◌ {A = M J} m' (glued m.0 o.0, m.1)
      → ((v : View J) (e : ℕ × J) (es : List (ℕ × J)) → m'.0 ≡ Live v → v.gathered ≡ e ∷ es
      → (◌≡◌ {A = M J} m'' (Live record v { last = later lines v.last e.1 }, m'.1)) × GoesOn origin lines f v.number v.last (later lines v.last e.1) × IsPrefix (lines e.1) (lines (later lines v.last e.1)))
      → Taken m o m''
  took_in m o m' m'' s so off offo to learnt = let a = posed m s false off in let b = posed o so false offo in let v = a.0 in let w = b.0 in
      let joined = between_steps m o m' v w a.1 b.1 to in
      let got = learnt (with_taken v w) (w.number, w.last) v.gathered (ap (λ (z : M J). z.0) joined) refl in
      let y : View J = record (with_taken v w) { last = later lines v.last w.last } in
      let is : ◌≡◌ {A = M J} m'' (Live y, []) = got.0 ∙ ap (λ (z : M J). let n : M J = (Live y, z.1) in n) joined in
      let whole : TookIn (Live v) (Live w) (Live y) = took_live v w got.1 got.2 in record {
        seated = seated m'' y (is ∙ ap (λ (b : Bool). let n : M J = (Live y, hand b) in n) (sym a.2));
        turn = ap (λ (z : M J). turn_in z.0) is ∙ a.2;
        took = subst (λ (z : Place J × (Place J × Place J)). TookIn z.0 z.1.0 z.1.1) (λ i. ((sym a.1 i).0, ((sym b.1 i).0, (sym is i).0))) whole;
      }
