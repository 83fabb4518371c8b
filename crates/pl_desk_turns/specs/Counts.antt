-- What a seat at a desk of notes knows.
use Rattle.std.specs.Prelude.{ℕ, List, Option}
use Rattle.pl_desk.specs.declared.desk.Seat.{Seat}
use Rattle.pl_desk.specs.Seats.{origin_of, seen, mine, gathered}
use Rattle.pl_desk_turns.specs.declared.notes.Notes.{Notes}
use Rattle.pl_desk_turns.specs.declared.notes.Note.{Note}

abbrev pub notes_of : Notes → List Note
notes_of s = s.notes.items

abbrev pub seat_of : Note → ℕ
seat_of n = n.seat

-- the notes that the seat saw last
abbrev pub known : Seat Notes → List Note
known = seen notes_of

abbrev pub own : Seat Notes → List Note
own = mine notes_of seat_of

abbrev pub taken_in : Seat Notes → List (ℕ × List Note)
taken_in = gathered notes_of seat_of

abbrev pub title_at : Seat Notes → Option ℕ
title_at = origin_of (λ s. s.title)
