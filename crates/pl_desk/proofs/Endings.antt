-- What is known of the item at the end, as a seat's clauses say it.
use Rattle.std.proofs.Common.{◌≡◌, ℕ, ◌<◌, All, List, Option, Some, ap, sym, ◌∙◌, subst, false}
use mathlib.Core.Option.{some, some-injective}
use mathlib.Core.List.{IsPrefix}
use lib.ListN.{get_elem?}
use Rattle.atomic_table.specs.Table.{Final, Seen}
use Rattle.std.proofs.lemmas.Option.{same_Some}
use Rattle.pl_desk.specs.declared.board.View.{View}
use Rattle.pl_desk.specs.declared.board.Place.{Place}
use Rattle.pl_desk.specs.declared.board.Place.TheVariants.{Live}
use Rattle.pl_desk.specs.Posed.{number_in, turn_in, made_in, origin_in, seen_in, mine_in, gathered_in, Has}
use Rattle.pl_desk.specs.Rule.{lines_of, Kept}
use Rattle.pl_desk.proofs.Lines.{map_at}
use Rattle.pl_desk.proofs.Steps.{closes}
use Rattle.pl_desk.proofs.Tokens.{M, IsSeated, posed}

module _ {J O L : Type 0} (origin : J → O) (lines : J → List L) (f : L → ℕ) where
  pub record Ends (p : Place J) (x : J) : Type 0 where
    pub origin_is : origin_in origin p ≡ Some (origin x)
    pub numbers : All (λ l. f l < made_in p) (lines x)
    pub mine : lines_of f 0 (lines x) ≡ mine_in lines f p
    pub others : (n : ℕ) (ls : List L) → Has (gathered_in lines f p) n ls → lines_of f n (lines x) ≡ ls
    pub seen : IsPrefix (seen_in lines p) (lines x)

  abbrev AllIn : Place J → Type 0
  AllIn p = (n : ℕ) → 0 < n → n < made_in p → (ls : List L) × Has (gathered_in lines f p) n ls

  end_live : (id : ℕ) (ws : List ℕ) (xs : List (Option J)) (v : View J) → v.number ≡ 0 → v.turn ≡ false → AllIn (Live v) → Final (Seen (Kept origin lines f) id (Live v)) ws xs
      → (x : J) × (get_elem? xs 0 ≡ some (Some x)) × Ends (Live v) x
  end_live id ws xs v zero_is off all final = let side : ℕ × J → ℕ × List L = λ e. (e.0, lines_of f e.0 (lines e.1)) in
      let over = closes origin lines f id v ws xs final zero_is off (λ n pos low. let h = all n pos low in let m = map_at side v.gathered h.1.0 (n, h.0) h.1.1 in (h.1.0, m.0, m.1, ap (λ (p : ℕ × List L). p.0) m.2)) in (
        over.0,
        over.1,
        record {
          origin_is = ap Some over.2.0;
          numbers = over.2.1;
          mine = over.2.2;
          others = λ n ls h. let m = map_at side v.gathered h.0 (n, ls) h.1 in subst (λ (p : ℕ × List L). lines_of f p.0 (lines over.0) ≡ p.1) m.2 (over.2.3 h.0 m.0 m.1);
          seen = over.2.4;
        },
      )

  -- the item that the closed table had
  pub item_found : (m : M J) → IsSeated m → turn_in m.0 ≡ false → number_in m.0 ≡ 0 → AllIn m.0 → (id : ℕ) (ws : List ℕ) (xs : List (Option J)) → Final (Seen (Kept origin lines f) id m.0) ws xs
      → (found : Option J) → get_elem? xs 0 ≡ some found → (x : J) × (found ≡ Some x) × Ends m.0 x
  item_found m s off zero_is all id ws xs final found at = let k = posed m s false off in
      let was = ap (λ (z : M J). z.0) k.1 in
      let over = subst (λ q. number_in q ≡ 0 → AllIn q → Final (Seen (Kept origin lines f) id q) ws xs → (x : J) × (get_elem? xs 0 ≡ some (Some x)) × Ends q x) (sym was) (λ z a e. end_live id ws xs k.0 z k.2 a e) zero_is all final in
      (over.0, some-injective found (Some over.0) (sym at ∙ over.1), over.2)

  pub ends_with : (m : M J) → IsSeated m → turn_in m.0 ≡ false → number_in m.0 ≡ 0 → AllIn m.0 → (id : ℕ) (ws : List ℕ) (xs : List (Option J)) → Final (Seen (Kept origin lines f) id m.0) ws xs
      → (found : Option J) → get_elem? xs 0 ≡ some found → (x : J) → found ≡ Some x → Ends m.0 x
  ends_with m s off zero_is all id ws xs final found at x is = let k = item_found m s off zero_is all id ws xs final found at in subst (Ends m.0) (same_Some k.0 x (sym k.1 ∙ is)) k.2
