-- What the loads of `rest` showed changes nothing else of a place.
use Rattle.std.proofs.Common.{◌≡◌, ℕ, refl, ap, sym, ◌∙◌}
use Rattle.pl_desk.specs.declared.board.View.{View}
use Rattle.pl_desk.specs.declared.board.Place.{Place}
use Rattle.pl_desk.specs.declared.board.Place.TheVariants.{Live, Spent}
use Rattle.pl_desk.specs.Posed.{unshown}

module _ {J A : Type 0} where
  -- g reads nothing of what loads showed
  abbrev pub Ignores : (Place J → A) → Type 0
  Ignores g = (n k : ℕ) (v : View J) → g (Live record v { shown = n; met = k }) ≡ g (Live v)

  ignored : (g : Place J → A) → Ignores g → (p : Place J) → g (unshown p) ≡ g p
  ignored g same Spent = refl
  ignored g same (Live v) = same 0 0 v

  pub alike : (g : Place J → A) → Ignores g → (p q : Place J) → unshown p ≡ unshown q → g p ≡ g q
  alike g same p q e = sym (ignored g same p) ∙ (ap g e ∙ ignored g same q)
