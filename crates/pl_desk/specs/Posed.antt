-- What a place at the table says.
use Rattle.std.specs.Prelude.{◌≡◌, ℕ, Bool, true, false, if◌then◌else◌, nat_lt, List, [], ◌∷◌, length, map, Option, Some, None}
use mathlib.Core.Option.{some}
use lib.ListN.{get_elem?}
use Rattle.pl_desk.specs.declared.board.Place.{Place}
use Rattle.pl_desk.specs.declared.board.Place.TheVariants.{Live, Spent}
use Rattle.pl_desk.specs.Rule.{lines_of}

module _ {J : Type 0} where
  abbrev pub is_live : Place J → Bool
  is_live Spent = false
  is_live (Live v) = true

  abbrev pub number_in : Place J → ℕ
  number_in Spent = 0
  number_in (Live v) = v.number

  abbrev pub turn_in : Place J → Bool
  turn_in Spent = false
  turn_in (Live v) = v.turn

  abbrev pub made_in : Place J → ℕ
  made_in Spent = 0
  made_in (Live v) = v.made

  abbrev pub shown_in : Place J → ℕ
  shown_in Spent = 0
  shown_in (Live v) = v.shown

  abbrev pub met_in : Place J → ℕ
  met_in Spent = 0
  met_in (Live v) = v.met

  -- the place but for what the loads of `rest` showed
  abbrev pub unshown : Place J → Place J
  unshown Spent = Spent
  unshown (Live v) = Live record v { shown = 0; met = 0 }

  -- the place where x is the item seen last, and the turn is out to it or not
  abbrev pub facing : J → Bool → Place J → Place J
  facing x b Spent = Spent
  facing x b (Live v) = Live record v { last = x; turn = b }

  -- the slots that are out with the seat
  abbrev pub hand : Bool → List (ℕ × Option J)
  hand true = (0, None) ∷ []
  hand false = []

module _ {J O : Type 0} (origin : J → O) where
  abbrev pub origin_in : Place J → Option O
  origin_in Spent = None
  origin_in (Live v) = Some (origin v.last)

module _ {J L : Type 0} (lines : J → List L) where
  abbrev pub seen_in : Place J → List L
  seen_in Spent = []
  seen_in (Live v) = lines v.last

  module _ (number_of : L → ℕ) where
    abbrev pub mine_in : Place J → List L
    mine_in Spent = []
    mine_in (Live v) = lines_of number_of v.number (lines v.last)

    abbrev pub gathered_in : Place J → List (ℕ × List L)
    gathered_in Spent = []
    gathered_in (Live v) = map (λ e. (e.0, lines_of number_of e.0 (lines e.1))) v.gathered

-- the longer of two lists
abbrev pub longer : {L : Type 0} → List L → List L → List L
longer xs ys = if nat_lt (length xs) (length ys) then ys else xs

-- the lines ls stand beside the number n
abbrev pub Has : {L : Type 0} → List (ℕ × List L) → ℕ → List L → Type 0
Has g n ls = (k : ℕ) × (get_elem? g k ≡ some (n, ls))
