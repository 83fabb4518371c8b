-- What a seat at a desk with a tally knows.
use Rattle.std.specs.Prelude.{ℕ, List}
use Rattle.pl_desk.specs.declared.desk.Seat.{Seat}
use Rattle.pl_desk.specs.Seats.{seen, mine, gathered}
use Rattle.pl_desk_speed.specs.declared.tally.Tally.{Tally}
use Rattle.pl_desk_speed.specs.Told.{told}

abbrev pub lines_in : Tally → List ℕ
lines_in t = told t.story.value

-- the lines that the seat saw last
abbrev pub known : Seat Tally → List ℕ
known = seen lines_in

abbrev pub own : Seat Tally → List ℕ
own = mine lines_in (λ n. n)

-- the numbers and lines of the seats that it took in
abbrev pub taken_in : Seat Tally → List (ℕ × List ℕ)
taken_in = gathered lines_in (λ n. n)
