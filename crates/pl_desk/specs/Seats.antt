-- What a seat and a desk are to their callers.
use Rattle.std.specs.Prelude.{ℕ, Bool, List, Option}
use Rattle.atomic_table.specs.Seated.{TableId}
use Rattle.pl_desk.specs.declared.board.Place.{Place}
use Rattle.pl_desk.specs.declared.desk.Seat.{Seat}
use Rattle.pl_desk.specs.declared.desk.Desk.{Desk}
use Rattle.pl_desk.specs.Posed.{number_in, turn_in, made_in, shown_in, met_in, origin_in, seen_in, mine_in, gathered_in}

module _ {J : Type 0} where
  -- which desk it is, or is a seat of
  abbrev pub id_of : Desk J → TableId
  id_of d = d.table.shared.table_id

  abbrev pub desk_of : Seat J → TableId
  desk_of s = s.hold.table_id

  abbrev pub place : Seat J → Place J
  place s = s.hold.me.0

  abbrev pub number : Seat J → ℕ
  number s = number_in (place s)

  abbrev pub has_turn : Seat J → Bool
  has_turn s = turn_in (place s)

  -- how many seats were made, where it is the first one
  abbrev pub made : Seat J → ℕ
  made s = made_in (place s)

  -- the most lines that a load of `rest` showed it
  abbrev pub shown : Seat J → ℕ
  shown s = shown_in (place s)

  -- how many loads of `rest` met the turn out
  abbrev pub met : Seat J → ℕ
  met s = met_in (place s)

-- the origin of its desk's item
abbrev pub origin_of : {J O : Type 0} → (J → O) → Seat J → Option O
origin_of origin s = origin_in origin (place s)

module _ {J L : Type 0} (lines : J → List L) where
  -- the list as it saw it last
  abbrev pub seen : Seat J → List L
  seen s = seen_in lines (place s)

  module _ (number_of : L → ℕ) where
    -- its own lines
    abbrev pub mine : Seat J → List L
    mine s = mine_in lines number_of (place s)

    -- the numbers and own lines of the seats that it took in, the last one first
    abbrev pub gathered : Seat J → List (ℕ × List L)
    gathered s = gathered_in lines number_of (place s)
