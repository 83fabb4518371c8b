-- Each step keeps the rule.
use Rattle.std.proofs.Common.{inl, inr, ◌≡◌, ◌≢◌, ℕ, zero, suc, ◌<◌, ◌≤◌, ◌+◌, ◌*◌, ◌%◌, ◌^◌, eqb, ◌⊎◌, Bool, true, false, List, [], ◌∷◌, ◌++◌, length, set, get_or, All, Option, Some, None, refl, ap, sym, ◌∙◌, subst, arith, eq-eqb, ne_eqb, ⊎_elim}
use mathlib.Core.Logic.{dite}
use mathlib.Core.List.{IsPrefix}
use mathlib.Core.Option.{some, none, some-injective, some-ne-none}
use native.Mathlib.Decide.{ℕ_discrete}
use lib.ListN.{get_elem?}
use prog.Atomic.{either}
use Rattle.atomic_table.specs.Table.{State, Me, step, keeps, takes, gives, stepped, Allows, Splits, Joins, Final, Seen}
use Rattle.atomic_table.proofs.Lists.{at_set, set_else, set_again, at_longer}
use Rattle.pl_desk.specs.declared.board.View.{View}
use Rattle.pl_desk.specs.declared.board.Place.{Place}
use Rattle.pl_desk.specs.declared.board.Place.TheVariants.{Live, Spent}
use Rattle.pl_desk.specs.Posed.{seen_in}
use Rattle.pl_desk.specs.Rule.{lines_of, Grows, Fits, Kept, took, gave, Known, knew, looked, later, GoesOn, learned, cut_left, cut_right, glued}
use Rattle.std.proofs.lemmas.Bool.Decides.{nat_tests}
use Rattle.std.specs.Prelude.{nat_lt, cond}
use Rattle.pl_desk.proofs.Lines.{prefix_self, prefix_trans, prefix_length, prefix_shorter, set_at, All_implies, none_below, grown_other, grown_prefix, between, below_front, all_both, snoc_cases, all_more}

-- the view of a live place; d stands in where it is spent
abbrev view_or : {J : Type 0} → View J → Place J → View J
view_or d Spent = d
view_or d (Live v) = v

module _ {J O L : Type 0} (origin : J → O) (lines : J → List L) (f : L → ℕ) where
  abbrev P : Type 0
  P = Place J

  abbrev St : Type 0
  St = State (Option J) P

  abbrev Rule : St → Type 0
  Rule = Kept origin lines f

  abbrev Fit : J → ℕ → View J → Type 0
  Fit = Fits origin lines f

  live_is : (v w : View J) → Live v ≡ Live w → v ≡ w
  live_is v w e = ap (view_or v) e

  -- a fact of each live seat, where one view is written
  each_seat : (Q : ℕ → View J → Type 0) (vs : List P) (id : ℕ) (v' : View J) → Q id v' → ((j : ℕ) (v : View J) → j ≢ id → get_elem? vs j ≡ some (Live v) → Q j v)
      → (j : ℕ) (v : View J) → get_elem? (set vs id (Live v')) j ≡ some (Live v) → Q j v
  each_seat Q vs id v' here there j v e =
      ⊎_elim (λ (t : (j ≡ id) × (Live v' ≡ Live v)). subst (λ (z : ℕ × View J). Q z.0 z.1) (λ i. (sym t.0 i, live_is v' v t.1 i)) here)
      (λ (t : (j ≢ id) × (get_elem? vs j ≡ some (Live v))). there j v t.0 t.1) (at_set vs id j (Live v') (Live v) e)

  -- what two seats are to each other: their numbers differ, and neither took the other in
  abbrev Apart : ℕ → View J → ℕ → View J → Type 0
  Apart i v j w = (v.number ≡ w.number → i ≡ j) × ((k : ℕ) (e : ℕ × J) → get_elem? v.gathered k ≡ some e → e.0 ≢ w.number)

  apart_of : (s : St) (r : Rule s) (i j : ℕ) (v w : View J) → get_elem? s.views i ≡ some (Live v) → get_elem? s.views j ≡ some (Live w) → Apart i v j w
  apart_of s r i j v w a b = (r.apart i j v w a b, λ k e. r.ended i j k v w e a b)

  -- a view with another last item, as it had the number and the gathered of the old one
  pub same_apart : (s : St) (r : Rule s) (id : ℕ) (v v' : View J) → get_elem? s.views id ≡ some (Live v) → v'.number ≡ v.number → v'.gathered ≡ v.gathered
      → (i j : ℕ) (u w : View J) → get_elem? (set s.views id (Live v')) i ≡ some (Live u) → get_elem? (set s.views id (Live v')) j ≡ some (Live w) → Apart i u j w
  same_apart s r id v v' at num gat i j u w a b =
      let from : View J → ℕ → View J → Type 0 = λ u j w. (u.number ≡ w.number → i ≡ j) × ((k : ℕ) (e : ℕ × J) → get_elem? u.gathered k ≡ some e → e.0 ≢ w.number) in
      let both : (i : ℕ) (u : View J) → get_elem? (set s.views id (Live v')) i ≡ some (Live u) → (u0 : View J) × (get_elem? s.views i ≡ some (Live u0)) × (u.number ≡ u0.number) × (u.gathered ≡ u0.gathered) =
      each_seat (λ i u. (u0 : View J) × (get_elem? s.views i ≡ some (Live u0)) × (u.number ≡ u0.number) × (u.gathered ≡ u0.gathered)) s.views id v' (v, at, num, gat) (λ j w _ e. (w, e, refl, refl)) in
      let p = both i u a in let q = both j w b in let old = apart_of s r i j p.0 q.0 p.1 q.1 in
      (λ e. old.0 (sym p.2 ∙ (e ∙ q.2)), λ k e is same. old.1 k e (ap (λ (g : List (ℕ × J)). get_elem? g k) (sym p.3) ∙ is) (same ∙ q.2))

  pub nothing_moves : (s : St) (id i n : ℕ) (v : P) → get_elem? s.views id ≡ some v → s.words ≡ n ∷ [] → Rule s → Rule (stepped s 0 (get_or s.words 0 0) id [] v keeps)
  nothing_moves s id i n v at one r =
      let same_words : s.words ≡ set s.words 0 (get_or s.words 0 0) = subst (λ (ws : List ℕ). ws ≡ set ws 0 (get_or ws 0 0)) (sym one) refl in
      subst (λ (z : List ℕ × List P). Rule record { words = z.0; homes = s.homes; views = z.1 }) (λ k. (same_words k, sym (set_again s.views id v at) k)) r

  -- the seat with the view v takes the item
  pub taken : (s : St) (id : ℕ) (v : View J) → get_elem? s.views id ≡ some (Live v) → (r : Rule s) → r.held ≡ 0
      → Rule (stepped s 0 (2 * length (lines r.item) + 1) id [] (Live record v { last = r.item; turn = true }) (takes 0 (Some r.item)))
  taken s id v at r free = let x = r.item in let v' : View J = record v { last = x; turn = true } in let fit = r.fits id v at in
      let both : (i j : ℕ) (u w : View J) → get_elem? (set s.views id (Live v')) i ≡ some (Live u) → get_elem? (set s.views id (Live v')) j ≡ some (Live w) → Apart i u j w = same_apart s r id v v' at refl refl in record {
        item = x;
        made = r.made;
        held = 1;
        by = id;
        word = ap (λ ws. set ws 0 (2 * length (lines x) + 1)) r.word;
        flag = omega arith;
        few = r.few;
        home = λ e. absurd (omega arith);
        away = λ _. ap (λ hs. set hs 0 none) (r.home free);
        numbers = r.numbers;
        fits = each_seat (λ _ w. Fit x r.made w) s.views id v' record {
          origin_is = refl;
          seen = prefix_self (lines x);
          mine = refl;
          below = fit.below;
          shown = fit.shown;
          first = fit.first;
          taken_in = fit.taken_in;
        } (λ j w _ e. r.fits j w e);
        turns = each_seat (λ j w. w.turn ≡ true → (1 ≡ 1) × (j ≡ id) × (lines w.last ≡ lines x)) s.views id v' (λ _. (refl, refl, refl)) (λ j w _ e on. let t = (r.turns j w e on).0 in absurd (omega arith));
        holder = λ _. (v', set_at s.views id (Live v') (Live v) at, refl);
        apart = λ i j u w a b. (both i j u w a b).0;
        ended = λ i j k u w e a b. (both i j u w a b).1 k e;
      }

  -- a view still fits where lines of a number that is not its own were added
  pub fits_more : (x y : J) (made n : ℕ) (v : View J) → origin x ≡ origin y → Grows f n (lines x) (lines y) → v.number ≢ n → ((k : ℕ) (e : ℕ × J) → get_elem? v.gathered k ≡ some e → e.0 ≢ n) → Fit x made v → Fit y made v
  fits_more x y made n v same grows other ended fit = record {
    origin_is = fit.origin_is ∙ same;
    seen = prefix_trans (lines v.last) (lines x) (lines y) fit.seen (grown_prefix f n (lines x) (lines y) grows);
    mine = fit.mine ∙ grown_other f v.number n (lines x) (lines y) other grows;
    below = fit.below;
    shown = omega (arith, fit.shown, prefix_length (lines x) (lines y) (grown_prefix f n (lines x) (lines y) grows));
    first = fit.first;
    taken_in = λ k e is. let t = fit.taken_in k e is in
        (t.0, t.1 ∙ same, prefix_trans (lines e.1) (lines x) (lines y) t.2 (grown_prefix f n (lines x) (lines y) grows), t.3 ∙ grown_other f e.0 n (lines x) (lines y) (ended k e is) grows);
  }

  grown_numbers : (n made : ℕ) (xs ys : List L) → n < made → Grows f n xs ys → All (λ l. f l < made) xs → All (λ l. f l < made) ys
  grown_numbers n made xs ys low grows all = subst (All (λ l. f l < made)) grows.1 (all_both f made xs grows.0 all (All_implies (λ (l : L). f l ≡ n) (λ (l : L). f l < made) (λ l e. omega arith) grows.0 grows.2))

  -- the seat with the view v puts back the item y
  pub given : (s : St) (id new : ℕ) (v : View J) (y : J) → get_elem? s.views id ≡ some (Live v) → (r : Rule s) → v.turn ≡ true → origin v.last ≡ origin y → Grows f v.number (lines v.last) (lines y) → length (lines y) < 2 ^ 62 → new ≡ 2 * length (lines y)
      → Rule (stepped s 0 new id ((0, Some y) ∷ []) (Live record v { last = y; turn = false }) gives)
  given s id new v y at r on same grew few is = let x = r.item in let v' : View J = record v { last = y; turn = false } in let fit = r.fits id v at in let mine = r.turns id v at on in
      let grows : Grows f v.number (lines x) (lines y) = subst (λ ls. Grows f v.number ls (lines y)) mine.2 grew in
      let from : origin x ≡ origin y = sym fit.origin_is ∙ same in
      let both : (i j : ℕ) (u w : View J) → get_elem? (set s.views id (Live v')) i ≡ some (Live u) → get_elem? (set s.views id (Live v')) j ≡ some (Live w) → Apart i u j w = same_apart s r id v v' at refl refl in
      let fit' : Fit y r.made v' = record {
        origin_is = refl;
        seen = prefix_self (lines y);
        mine = refl;
        below = fit.below;
        shown = omega (arith, fit.shown, prefix_length (lines x) (lines y) (grown_prefix f v.number (lines x) (lines y) grows));
        first = fit.first;
        taken_in = λ k e is. let t = fit.taken_in k e is in let other : e.0 ≢ v.number = r.ended id id k v v e at at is in
            (t.0, t.1 ∙ from, prefix_trans (lines e.1) (lines x) (lines y) t.2 (grown_prefix f v.number (lines x) (lines y) grows), t.3 ∙ grown_other f e.0 v.number (lines x) (lines y) other grows);
      } in record {
        item = y;
        made = r.made;
        held = 0;
        by = 0;
        word = ap (λ ws. set ws 0 new) r.word ∙ ap (λ (k : ℕ). k ∷ []) (omega arith);
        flag = omega arith;
        few = few;
        home = λ _. ap (λ hs. set hs 0 (some (Some y))) (r.away mine.0);
        away = λ e. absurd (omega arith);
        numbers = grown_numbers v.number r.made (lines x) (lines y) fit.below grows r.numbers;
        fits = each_seat (λ _ w. Fit y r.made w) s.views id v' fit'
            (λ j w other e. fits_more x y r.made v.number w from grows (λ q. other (r.apart j id w v e at q)) (λ k g is. r.ended j id k w v g e at is) (r.fits j w e));
        turns = each_seat (λ j w. w.turn ≡ true → (0 ≡ 1) × (j ≡ 0) × (lines w.last ≡ lines y)) s.views id v' (λ e. absurd (cc e)) (λ j w other e on. absurd (other ((r.turns j w e on).1 ∙ sym mine.1)));
        holder = λ e. absurd (omega arith);
        apart = λ i j u w a b. (both i j u w a b).0;
        ended = λ i j k u w e a b. (both i j u w a b).1 k e;
      }

  abbrev M : Type 0
  M = Me (Option J) P

  as_live : (v : View J) (Q : View J → Type 0) → Q v → (u : View J) → Live v ≡ Live u → Q u
  as_live v Q q u e = subst Q (live_is v u e) q

  word_is : (s : St) (r : Rule s) → get_or s.words 0 0 ≡ 2 * length (lines r.item) + r.held
  word_is s r = ap (λ ws. get_or ws 0 0) r.word

  takes_at : (slots id word : ℕ) (v : View J) → word % 2 ≡ 0
      → Allows Rule slots id (Live v, []) 0 (λ n. either (eqb n word) (word + 1) n) (took origin lines f (step slots 0 word (word + 1) none) (Live v, []))
  takes_at slots id word v even s r _ at _ = let n : ℕ = get_or s.words 0 0 in let now = word_is s r in let x = r.item in let flag = r.flag in let fit = r.fits id v at in let v' : View J = record v { last = x; turn = true } in
      dite (ℕ_discrete n word)
      (λ hit. let free : r.held ≡ 0 = omega arith in let next : word + 1 ≡ 2 * length (lines x) + 1 = omega arith in (
        Live v',
        takes 0 (Some x),
        ap (λ hs. get_elem? hs 0) (r.home free),
        subst (λ b. Rule (stepped s 0 (either b (word + 1) n) id [] (Live v') (takes 0 (Some x)))) (sym (eq-eqb n word hit))
            (subst (λ k. Rule (stepped s 0 k id [] (Live v') (takes 0 (Some x)))) (sym next) (taken s id v at r free)),
        as_live v (λ u. (n ≢ word → (Live v', (0, Some x) ∷ []) ≡ (Live v, [])) × (n ≡ word → (y : J) × ((Live v', (0, Some x) ∷ []) ≡ (Live record u { last = y; turn = true }, (0, Some y) ∷ []))
            × (origin u.last ≡ origin y) × IsPrefix (lines u.last) (lines y) × (lines_of f u.number (lines u.last) ≡ lines_of f u.number (lines y)) × (length (lines y) < 2 ^ 62) × (u.shown ≤ length (lines y))))
            ((λ miss. absurd (miss hit)), λ _. (x, refl, fit.origin_is, fit.seen, fit.mine, r.few, fit.shown)),
      ))
      (λ miss. (
        Live v,
        keeps,
        tt,
        subst (λ b. Rule (stepped s 0 (either b (word + 1) n) id [] (Live v) keeps)) (sym (ne_eqb n word miss)) (nothing_moves s id 0 (2 * length (lines x) + r.held) (Live v) at r.word r),
        λ u e. ((λ _. refl), λ hit. absurd (miss hit)),
      ))

  pub takes_ok : (slots id word : ℕ) (me : M) (v : View J) → me ≡ (Live v, []) → word % 2 ≡ 0
      → Allows Rule slots id me 0 (λ n. either (eqb n word) (word + 1) n) (took origin lines f (step slots 0 word (word + 1) none) me)
  takes_ok slots id word me v is even = subst (λ m. Allows Rule slots id m 0 (λ n. either (eqb n word) (word + 1) n) (took origin lines f (step slots 0 word (word + 1) none) m)) (sym is) (takes_at slots id word v even)

  me_parts : (v u : View J) (x y : J) → ◌≡◌ {A = M} (Live v, (0, Some x) ∷ []) (Live u, (0, Some y) ∷ []) → ◌≡◌ {A = P} (Live record v { last = x; turn = false }) (Live record u { last = y; turn = false })
  me_parts v u x y e = let a = live_is v u (ap (λ (m : M). m.0) e) in
      let slot : List (ℕ × Option J) → J = λ c. elim c as (λ _. J) [ [] ↦ x | (z ∷ zs) ↦ elim (z.1) as (λ _. J) [ None ↦ x | Some w ↦ w ] ] in
      let b : x ≡ y = ap (λ (m : M). slot m.1) e in λ i. Live record (a i) { last = b i; turn = false }

  gives_at : (slots id new : ℕ) (v : View J) (y : J) → v.turn ≡ true → origin v.last ≡ origin y → Grows f v.number (lines v.last) (lines y) → length (lines y) < 2 ^ 62 → new ≡ 2 * length (lines y)
      → Allows Rule slots id (Live v, (0, Some y) ∷ []) 0 (λ _. new) (gave origin lines f (step slots 0 new 0 none) (Live v, (0, Some y) ∷ []))
  gives_at slots id new v y on same grew few is s r _ at _ = let t = r.turns id v at on in let found : get_or s.words 0 0 ≡ 2 * length (lines v.last) + 1 = omega (arith, word_is s r, t.0, ap length t.2) in (
    Live record v { last = y; turn = false },
    gives,
    tt,
    given s id new v y at r on same grew few is,
    λ u z e. (found ∙ ap (λ (m : M). 2 * length (seen_in lines m.0) + 1) e, λ i. (me_parts v u y z e i, [])),
  )

  pub gives_ok : (slots id new : ℕ) (me : M) (v : View J) (y : J) → me ≡ (Live v, (0, Some y) ∷ []) → v.turn ≡ true → origin v.last ≡ origin y → Grows f v.number (lines v.last) (lines y) → length (lines y) < 2 ^ 62 → new ≡ 2 * length (lines y)
      → Allows Rule slots id me 0 (λ _. new) (gave origin lines f (step slots 0 new 0 none) me)
  gives_ok slots id new me v y is on same grew few to = subst (λ m. Allows Rule slots id m 0 (λ _. new) (gave origin lines f (step slots 0 new 0 none) m)) (sym is) (gives_at slots id new v y on same grew few to)

  -- a seat without the turn has another view, which fits
  pub review : (s : St) (id : ℕ) (v v' : View J) → get_elem? s.views id ≡ some (Live v) → (r : Rule s) → v.turn ≡ false → v'.turn ≡ false → v'.number ≡ v.number → v'.gathered ≡ v.gathered → Fit r.item r.made v'
      → Rule (stepped s 0 (get_or s.words 0 0) id [] (Live v') keeps)
  review s id v v' at r off off' num gat fit' =
      let both : (i j : ℕ) (u w : View J) → get_elem? (set s.views id (Live v')) i ≡ some (Live u) → get_elem? (set s.views id (Live v')) j ≡ some (Live w) → Apart i u j w = same_apart s r id v v' at num gat in
      let same_words : s.words ≡ set s.words 0 (get_or s.words 0 0) = subst (λ (ws : List ℕ). ws ≡ set ws 0 (get_or ws 0 0)) (sym r.word) refl in record {
        item = r.item;
        made = r.made;
        held = r.held;
        by = r.by;
        word = sym same_words ∙ r.word;
        flag = r.flag;
        few = r.few;
        home = r.home;
        away = r.away;
        numbers = r.numbers;
        fits = each_seat (λ _ w. Fit r.item r.made w) s.views id v' fit' (λ j w _ e. r.fits j w e);
        turns = each_seat (λ j w. w.turn ≡ true → (r.held ≡ 1) × (j ≡ r.by) × (lines w.last ≡ lines r.item)) s.views id v' (λ on. absurd (cc (on, off'))) (λ j w _ e on. r.turns j w e on);
        holder = λ e. let h = r.holder e in let other : r.by ≢ id = λ (q : r.by ≡ id). let same : v ≡ h.0 = live_is v h.0 (some-injective (Live v) (Live h.0) (sym at ∙ (ap (get_elem? s.views) (sym q) ∙ h.1))) in absurd (cc (off, h.2, ap (λ (u : View J). u.turn) same)) in
            (h.0, set_else s.views id r.by (Live v') other ∙ h.1, h.2);
        apart = λ i j u w a b. (both i j u w a b).0;
        ended = λ i j k u w e a b. (both i j u w a b).1 k e;
      }

  knows_at : (slots id : ℕ) (v : View J) → Allows Rule slots id (Live v, []) 0 (λ n. n) (knew origin lines f (step slots 0 0 0 none) (Live v, []))
  knows_at slots id v s r _ at _ = let known : Known origin lines f (get_or s.words 0 0) v = (r.item, r.made, r.held, r.fits id v at, r.numbers, r.flag, word_is s r) in (
    Live v,
    keeps,
    tt,
    nothing_moves s id 0 (2 * length (lines r.item) + r.held) (Live v) at r.word r,
    (refl, as_live v (λ u. Known origin lines f (get_or s.words 0 0) u) known),
  )

  pub knows_ok : (slots id : ℕ) (me : M) (v : View J) → me ≡ (Live v, []) → Allows Rule slots id me 0 (λ n. n) (knew origin lines f (step slots 0 0 0 none) me)
  knows_ok slots id me v is = subst (λ m. Allows Rule slots id m 0 (λ n. n) (knew origin lines f (step slots 0 0 0 none) m)) (sym is) (knows_at slots id v)

  looks_at : (slots id : ℕ) (v : View J) → v.turn ≡ false → Allows Rule slots id (Live v, []) 0 (λ n. n) (looked origin lines f (step slots 0 0 0 none) (Live v, []))
  looks_at slots id v off s r _ at _ = let fit = r.fits id v at in let v' : View J = record v { shown = length (lines r.item); met = v.met + r.held } in (
    Live v',
    keeps,
    tt,
    review s id v v' at r off off refl refl record {
      origin_is = fit.origin_is;
      seen = fit.seen;
      mine = fit.mine;
      below = fit.below;
      shown = omega arith;
      first = fit.first;
      taken_in = fit.taken_in;
    },
    as_live v (λ u. (n : ℕ) × (held : ℕ) × (get_or s.words 0 0 ≡ 2 * n + held) × (held < 2) × (u.shown ≤ n) × (◌≡◌ {A = M} (Live v', []) (Live record u { shown = n; met = u.met + held }, [])))
        (length (lines r.item), r.held, word_is s r, r.flag, fit.shown, refl),
  )

  pub looks_ok : (slots id : ℕ) (me : M) (v : View J) → me ≡ (Live v, []) → v.turn ≡ false → Allows Rule slots id me 0 (λ n. n) (looked origin lines f (step slots 0 0 0 none) me)
  looks_ok slots id me v is off = subst (λ m. Allows Rule slots id m 0 (λ n. n) (looked origin lines f (step slots 0 0 0 none) m)) (sym is) (looks_at slots id v off)

  -- what is known of the later of what two seats saw
  abbrev Later : J → J → ℕ → J → J → Type 0
  Later item x n z y = GoesOn origin lines f n x y × IsPrefix (lines z) (lines y) × GoesOn origin lines f n y item

  later_is : (item x z : J) (n : ℕ) (b : Bool) → nat_lt (length (lines x)) (length (lines z)) ≡ b → origin x ≡ origin item → origin z ≡ origin item → IsPrefix (lines x) (lines item) → IsPrefix (lines z) (lines item)
      → lines_of f n (lines x) ≡ lines_of f n (lines item) → Later item x n z (cond b z x)
  later_is item x z n true less ox oz px pz same = let le : length (lines x) ≤ length (lines z) = grind (arith, nat_tests) in let on = prefix_shorter (lines x) (lines z) (lines item) px pz le in
      let whole = between f n (lines x) (lines z) (lines item) on pz same in ((ox ∙ sym oz, on, same ∙ sym whole), prefix_self (lines z), (oz, pz, whole))
  later_is item x z n false less ox oz px pz same = let le : length (lines z) ≤ length (lines x) = grind (arith, nat_tests) in
      ((refl, prefix_self (lines x), refl), prefix_shorter (lines z) (lines x) (lines item) pz px le, (ox, px, same))

  learns_at : (slots id : ℕ) (v : View J) (e : ℕ × J) (es : List (ℕ × J)) → v.turn ≡ false → v.gathered ≡ e ∷ es
      → Allows Rule slots id (Live v, []) 0 (λ n. n) (learned origin lines f (step slots 0 0 0 none) (Live v, []))
  learns_at slots id v e es off has s r _ at _ = let fit = r.fits id v at in let t = fit.taken_in 0 e (ap (λ (g : List (ℕ × J)). get_elem? g 0) has) in
      let y : J = later lines v.last e.1 in let v' : View J = record v { last = y } in
      let l : Later r.item v.last v.number e.1 y = later_is r.item v.last e.1 v.number (nat_lt (length (lines v.last)) (length (lines e.1))) refl fit.origin_is t.1 fit.seen t.2 fit.mine in (
        Live v',
        keeps,
        tt,
        review s id v v' at r off off refl refl record {
          origin_is = l.2.0;
          seen = l.2.1;
          mine = l.2.2;
          below = fit.below;
          shown = fit.shown;
          first = fit.first;
          taken_in = fit.taken_in;
        },
        λ u d ds same gat. let Q : View J → ℕ × J → Type 0 = λ u d. (◌≡◌ {A = M} (Live v', []) (Live record u { last = later lines u.last d.1 }, [])) × GoesOn origin lines f u.number u.last (later lines u.last d.1) × IsPrefix (lines d.1) (lines (later lines u.last d.1)) in
            let vu = live_is v u same in let ed : e ≡ d = cc (has, gat, ap (λ (w : View J). w.gathered) vu) in
            subst (λ (z : View J × (ℕ × J)). Q z.0 z.1) (λ i. (vu i, ed i)) (refl, l.0, l.1),
      )

  pub learns_ok : (slots id : ℕ) (me : M) (v : View J) (e : ℕ × J) (es : List (ℕ × J)) → me ≡ (Live v, []) → v.turn ≡ false → v.gathered ≡ e ∷ es
      → Allows Rule slots id me 0 (λ n. n) (learned origin lines f (step slots 0 0 0 none) me)
  learns_ok slots id me v e es is off has = subst (λ m. Allows Rule slots id m 0 (λ n. n) (learned origin lines f (step slots 0 0 0 none) m)) (sym is) (learns_at slots id v e es off has)

  abbrev second : View J → View J
  second v = record { marker = record {}; number = v.made; last = v.last; turn = false; made = 0; gathered = []; shown = 0; met = 0 }

  -- a fact of each live seat, where one view is written and a seat is added
  each_more : (Q : ℕ → View J → Type 0) (vs : List P) (id : ℕ) (v' u' : View J) → Q id v' → Q (length (set vs id (Live v'))) u' → ((j : ℕ) (v : View J) → j ≢ id → get_elem? vs j ≡ some (Live v) → Q j v)
      → (j : ℕ) (v : View J) → get_elem? (set vs id (Live v') ++ Live u' ∷ []) j ≡ some (Live v) → Q j v
  each_more Q vs id v' u' here new there j v e =
      ⊎_elim (λ (t : get_elem? (set vs id (Live v')) j ≡ some (Live v)). each_seat Q vs id v' here there j v t)
      (λ (t : (j ≡ length (set vs id (Live v'))) × (Live u' ≡ Live v)). subst (λ (z : ℕ × View J). Q z.0 z.1) (λ i. (sym t.0 i, live_is u' v t.1 i)) new)
      (snoc_cases (set vs id (Live v')) (Live u') (Live v) j e)

  pub splits_ok : (id : ℕ) (v : View J) → v.number ≡ 0 → v.turn ≡ false → Splits Rule id (Live v) (Live record v { made = v.made + 1 }) (Live (second v))
  splits_ok id v zero_is off s r at = let left : View J = record v { made = v.made + 1 } in let right : View J = second v in let fit = r.fits id v at in let top : v.made ≡ r.made = fit.first zero_is in
      let both : (i j : ℕ) (u w : View J) → get_elem? (set s.views id (Live left)) i ≡ some (Live u) → get_elem? (set s.views id (Live left)) j ≡ some (Live w) → Apart i u j w = same_apart s r id v left at refl refl in
      let vs : List P = set s.views id (Live left) in
      -- a seat that was there has a lesser number, and took in lesser ones
      let Old : View J → Type 0 = λ u. (u.number < v.made) × ((k : ℕ) (e : ℕ × J) → get_elem? u.gathered k ≡ some e → e.0 < v.made) in
      let old : (j : ℕ) (u : View J) → get_elem? vs j ≡ some (Live u) → Old u =
      each_seat (λ _ u. Old u) s.views id left ((let low = fit.below in omega arith), λ k e is. let t = (fit.taken_in k e is).0 in omega arith) (λ j u _ e. ((let low = (r.fits j u e).below in omega arith), λ k d is. let t = ((r.fits j u e).taken_in k d is).0 in omega arith)) in
      let apart : (i j : ℕ) (u w : View J) → get_elem? (vs ++ Live right ∷ []) i ≡ some (Live u) → get_elem? (vs ++ Live right ∷ []) j ≡ some (Live w) → Apart i u j w = λ i j u w a b.
      ⊎_elim (λ (p : get_elem? vs i ≡ some (Live u)). ⊎_elim (λ (q : get_elem? vs j ≡ some (Live w)). both i j u w p q)
      (λ (q : (j ≡ length vs) × (Live right ≡ Live w)). let is : v.made ≡ w.number = ap (λ (z : View J). z.number) (live_is right w q.1) in let o = old i u p in
      ((λ same. let low = o.0 in absurd (omega (arith, same, is))), λ k e at same. let low = o.1 k e at in absurd (omega (arith, same, is))))
      (snoc_cases vs (Live right) (Live w) j b))
      (λ (p : (i ≡ length vs) × (Live right ≡ Live u)). let un : v.made ≡ u.number = ap (λ (z : View J). z.number) (live_is right u p.1) in let none_in : [] ≡ u.gathered = ap (λ (z : View J). z.gathered) (live_is right u p.1) in (
        (λ same. ⊎_elim (λ (q : get_elem? vs j ≡ some (Live w)). let low = (old j w q).0 in absurd (omega (arith, same, un))) (λ (q : (j ≡ length vs) × (Live right ≡ Live w)). p.0 ∙ sym q.0) (snoc_cases vs (Live right) (Live w) j b)),
        λ k e at. absurd (some-ne-none e (sym (ap (λ (g : List (ℕ × J)). get_elem? g k) none_in ∙ at))),
      ))
      (snoc_cases vs (Live right) (Live u) i a) in
      let nothing : lines_of f v.made (lines r.item) ≡ [] = ap (λ n. lines_of f n (lines r.item)) top ∙ none_below f r.made (lines r.item) r.numbers in
      let nothing_seen : lines_of f v.made (lines v.last) ≡ [] = ap (λ n. lines_of f n (lines v.last)) top ∙ none_below f r.made (lines v.last) (below_front f r.made (lines v.last) (lines r.item) fit.seen r.numbers) in record {
        item = r.item;
        made = r.made + 1;
        held = r.held;
        by = r.by;
        word = r.word;
        flag = r.flag;
        few = r.few;
        home = r.home;
        away = r.away;
        numbers = all_more f r.made (r.made + 1) (lines r.item) (omega arith) r.numbers;
        fits = each_more (λ _ w. Fit r.item (r.made + 1) w) s.views id left right record {
          origin_is = fit.origin_is;
          seen = fit.seen;
          mine = fit.mine;
          below = let low = fit.below in omega arith;
          shown = fit.shown;
          first = λ _. ap (λ (k : ℕ). k + 1) top;
          taken_in = λ k e is. let t = fit.taken_in k e is in ((let low = t.0 in omega arith), t.1, t.2, t.3);
        } record {
          origin_is = fit.origin_is;
          seen = fit.seen;
          mine = nothing_seen ∙ sym nothing;
          below = omega arith;
          shown = omega arith;
          first = λ z. let low = fit.below in absurd (omega arith);
          taken_in = λ k e is. absurd (some-ne-none e (sym is));
        } (λ j w other e. let g = r.fits j w e in record {
          origin_is = g.origin_is;
          seen = g.seen;
          mine = g.mine;
          below = let low = g.below in omega arith;
          shown = g.shown;
          first = λ z. absurd (other (r.apart j id w v e at (z ∙ sym zero_is)));
          taken_in = λ k d is. let t = g.taken_in k d is in ((let low = t.0 in omega arith), t.1, t.2, t.3);
        });
        turns = each_more (λ j w. w.turn ≡ true → (r.held ≡ 1) × (j ≡ r.by) × (lines w.last ≡ lines r.item)) s.views id left right (λ on. absurd (cc (on, off))) (λ on. absurd (cc on)) (λ j w _ e on. r.turns j w e on);
        holder = λ e. let h = r.holder e in let other : r.by ≢ id = λ (q : r.by ≡ id). let same : v ≡ h.0 = live_is v h.0 (some-injective (Live v) (Live h.0) (sym at ∙ (ap (get_elem? s.views) (sym q) ∙ h.1))) in absurd (cc (off, h.2, ap (λ (u : View J). u.turn) same)) in
            (h.0, at_longer vs (Live right ∷ []) r.by (Live h.0) (set_else s.views id r.by (Live left) other ∙ h.1), h.2);
        apart = λ i j u w a b. (apart i j u w a b).0;
        ended = λ i j k u w e a b. (apart i j u w a b).1 k e;
      }

  abbrev pub taking_in : View J → View J → View J
  taking_in v w = record v { gathered = (w.number, w.last) ∷ v.gathered }

  -- a seat that is live once one is spent was live, and is another
  still_live : (vs : List P) (other j : ℕ) (u : View J) → get_elem? (set vs other Spent) j ≡ some (Live u) → (j ≢ other) × (get_elem? vs j ≡ some (Live u))
  still_live vs other j u e = ⊎_elim (λ (t : (j ≡ other) × (Spent ≡ Live u)). absurd (cc (t.1))) (λ t. t) (at_set vs other j Spent (Live u) e)

  cons_at : {A : Type 0} (Q : A → Type 0) (x : A) (xs : List A) → Q x → ((k : ℕ) (e : A) → get_elem? xs k ≡ some e → Q e) → (k : ℕ) (e : A) → get_elem? (x ∷ xs) k ≡ some e → Q e
  cons_at Q x xs q qs zero e is = subst Q (some-injective x e is) q
  cons_at Q x xs q qs (suc k) e is = qs k e is

  pub joins_ok : (id : ℕ) (v : View J) (other : ℕ) (w : View J) → v.turn ≡ false → w.turn ≡ false → Joins Rule id (Live v) other (Live w) (Live (taking_in v w)) Spent
  joins_ok id v other w off woff s r at apart_ids at2 = let v' : View J = taking_in v w in let fit = r.fits id v at in
      let there : get_elem? s.views other ≡ some (Live w) = sym (set_else s.views id other (Live v') apart_ids) ∙ at2 in let wfit = r.fits other w there in
      let vs : List P = set s.views id (Live v') in
      -- each live seat was live, is not the spent one, has the number that it had, and what it took in is what it had taken in or w
      let From : ℕ → View J → Type 0 = λ j u. (u0 : View J) × (get_elem? s.views j ≡ some (Live u0)) × (u.number ≡ u0.number) × ((k : ℕ) (e : ℕ × J) → get_elem? u.gathered k ≡ some e → ((n : ℕ) × (get_elem? u0.gathered n ≡ some e)) ⊎ (w.number ≡ e.0)) in
      let from : (j : ℕ) (u : View J) → get_elem? (set vs other Spent) j ≡ some (Live u) → (j ≢ other) × From j u = λ j u e. let l = still_live vs other j u e in (
        l.0,
        each_seat From s.views id v' (v, at, refl, cons_at (λ e. ((n : ℕ) × (get_elem? v.gathered n ≡ some e)) ⊎ (w.number ≡ e.0)) (w.number, w.last) v.gathered (inr refl) (λ k e is. inl (k, is)))
            (λ j u _ e. (u, e, refl, λ k d is. inl (k, is))) j u l.1,
      ) in
      let same_fits : (j : ℕ) (u : View J) → get_elem? vs j ≡ some (Live u) → Fit r.item r.made u = each_seat (λ _ u. Fit r.item r.made u) s.views id v' record {
        origin_is = fit.origin_is;
        seen = fit.seen;
        mine = fit.mine;
        below = fit.below;
        shown = fit.shown;
        first = fit.first;
        taken_in = cons_at (λ e. (e.0 < r.made) × (origin e.1 ≡ origin r.item) × IsPrefix (lines e.1) (lines r.item) × (lines_of f e.0 (lines e.1) ≡ lines_of f e.0 (lines r.item))) (w.number, w.last) v.gathered
            (wfit.below, wfit.origin_is, wfit.seen, wfit.mine) fit.taken_in;
      } (λ j u _ e. r.fits j u e) in
      let same_turns : (j : ℕ) (u : View J) → get_elem? vs j ≡ some (Live u) → u.turn ≡ true → (r.held ≡ 1) × (j ≡ r.by) × (lines u.last ≡ lines r.item) =
      each_seat (λ j u. u.turn ≡ true → (r.held ≡ 1) × (j ≡ r.by) × (lines u.last ≡ lines r.item)) s.views id v' (λ on. absurd (cc (on, off))) (λ j u _ e on. r.turns j u e on) in
      let not_by : (i : ℕ) (u : View J) → get_elem? s.views i ≡ some (Live u) → u.turn ≡ false → (h : View J) → get_elem? s.views r.by ≡ some (Live h) → h.turn ≡ true → r.by ≢ i = λ i u au uoff h ah hon q.
      let same : u ≡ h = live_is u h (some-injective (Live u) (Live h) (sym au ∙ (ap (get_elem? s.views) (sym q) ∙ ah))) in absurd (cc (uoff, hon, ap (λ (z : View J). z.turn) same)) in record {
        item = r.item;
        made = r.made;
        held = r.held;
        by = r.by;
        word = r.word;
        flag = r.flag;
        few = r.few;
        home = r.home;
        away = r.away;
        numbers = r.numbers;
        fits = λ j u e. same_fits j u (still_live vs other j u e).1;
        turns = λ j u e on. same_turns j u (still_live vs other j u e).1 on;
        holder = λ e. let h = r.holder e in
            (h.0, set_else vs other r.by Spent (not_by other w there woff h.0 h.1 h.2) ∙ (set_else s.views id r.by (Live v') (not_by id v at off h.0 h.1 h.2) ∙ h.1), h.2);
        apart = λ i j a b ea eb same. let p = (from i a ea).1 in let q = (from j b eb).1 in r.apart i j p.0 q.0 p.1 q.1 (sym p.2 ∙ (same ∙ q.2));
        ended = λ i j k a b e ea eb is same. let p = (from i a ea).1 in let q = from j b eb in
            ⊎_elim (λ (t : (n : ℕ) × (get_elem? p.0.gathered n ≡ some e)). r.ended i j t.0 p.0 q.1.0 e p.1 q.1.1 t.1 (same ∙ q.1.2))
            (λ (t : w.number ≡ e.0). q.0 (sym (r.apart other j w q.1.0 there q.1.1 (t ∙ (same ∙ q.1.2))))) (p.3 k e is);
      }

  -- what is known of the item at the end
  abbrev pub Closing : View J → J → Type 0
  Closing v x = (origin v.last ≡ origin x) × All (λ l. f l < v.made) (lines x) × (lines_of f 0 (lines x) ≡ lines_of f v.number (lines v.last))
      × ((k : ℕ) (e : ℕ × J) → get_elem? v.gathered k ≡ some e → lines_of f e.0 (lines x) ≡ lines_of f e.0 (lines e.1)) × IsPrefix (lines v.last) (lines x)

  pub closes : (id : ℕ) (v : View J) (ws : List ℕ) (xs : List (Option J)) → Final (Seen Rule id (Live v)) ws xs → v.number ≡ 0 → v.turn ≡ false
      → ((n : ℕ) → 0 < n → n < v.made → (k : ℕ) × (e : ℕ × J) × (get_elem? v.gathered k ≡ some e) × (e.0 ≡ n)) → (x : J) × (get_elem? xs 0 ≡ some (Some x)) × Closing v x
  closes id v ws xs final zero_is off all = let s = final.0 in let r = final.1.0 in let at = final.1.1 in let fit = r.fits id v at in let top : v.made ≡ r.made = fit.first zero_is in let flag = r.flag in
      let free : r.held ≡ 0 = dite (ℕ_discrete r.held 0) (λ e. e) (λ away. let one : r.held ≡ 1 = omega arith in let h = r.holder one in
      absurd (dite (ℕ_discrete h.0.number 0)
      (λ z. let same_seat : r.by ≡ id = r.apart r.by id h.0 v h.1 at (z ∙ sym zero_is) in let same : v ≡ h.0 = live_is v h.0 (some-injective (Live v) (Live h.0) (sym at ∙ (ap (get_elem? s.views) (sym same_seat) ∙ h.1))) in cc (off, h.2, ap (λ (u : View J). u.turn) same))
      (λ nz. let low = (r.fits r.by h.0 h.1).below in let g = all h.0.number (omega arith) (omega arith) in r.ended id r.by g.0 v h.0 g.1 at h.1 g.2 g.3))) in
      (r.item, final.4 0 (Some r.item) (ap (λ hs. get_elem? hs 0) (r.home free)), (fit.origin_is, subst (λ n. All (λ l. f l < n) (lines r.item)) (sym top) r.numbers, ap (λ n. lines_of f n (lines r.item)) (sym zero_is) ∙ sym fit.mine, λ k e is. sym (fit.taken_in k e is).3, fit.seen))

  pub splits_at : (id : ℕ) (p : P) (v : View J) → p ≡ Live v → v.number ≡ 0 → v.turn ≡ false → Splits Rule id p (cut_left p) (cut_right p)
  splits_at id p v is zero_is off = subst (λ q. Splits Rule id q (cut_left q) (cut_right q)) (sym is) (splits_ok id v zero_is off)

  pub joins_at : (id : ℕ) (p : P) (v : View J) (other : ℕ) (q : P) (w : View J) → p ≡ Live v → q ≡ Live w → v.turn ≡ false → w.turn ≡ false → Joins Rule id p other q (glued p q) Spent
  joins_at id p v other q w is isw off woff = subst (λ (z : P × P). Joins Rule id z.0 other z.1 (glued z.0 z.1) Spent) (λ i. (sym is i, sym isw i)) (joins_ok id v other w off woff)

  -- no seat has the next number yet
  pub no_line_yet : (found : ℕ) (v : View J) → Known origin lines f found v → v.number ≡ 0 → lines_of f v.made (lines v.last) ≡ []
  no_line_yet found v k zero_is = ap (λ n. lines_of f n (lines v.last)) (k.3.first zero_is) ∙ none_below f k.1 (lines v.last) (below_front f k.1 (lines v.last) (lines k.0) k.3.seen k.4)
