-- The rule of the table, and what each step tells.
use Rattle.std.specs.Prelude.{◌≡◌, ◌≢◌, ℕ, ◌+◌, ◌*◌, ◌^◌, ◌<◌, ◌≤◌, ◌==◌, true, false, List, [], ◌∷◌, ◌++◌, length, filter, All, Option, Some, nat_lt, if◌then◌else◌}
use mathlib.Core.List.{IsPrefix}
use mathlib.Core.Option.{some, none}
use lib.ListN.{get_elem?}
use Rattle.atomic_table.specs.Table.{State, Me, Step}
use Rattle.pl_desk.specs.declared.board.View.{View}
use Rattle.pl_desk.specs.declared.board.Place.{Place}
use Rattle.pl_desk.specs.declared.board.Place.TheVariants.{Live, Spent}

-- the lines of one number
abbrev pub lines_of : {L : Type 0} → (L → ℕ) → ℕ → List L → List L
lines_of number_of n ls = filter (λ l. number_of l == n) ls

-- ys goes on from xs by lines of the number n alone
abbrev pub Grows : {L : Type 0} → (L → ℕ) → ℕ → List L → List L → Type 0
Grows {L} number_of n xs ys = (zs : List L) × (xs ++ zs ≡ ys) × All (λ l. number_of l ≡ n) zs

-- the first seat's view
abbrev pub first_view : {J : Type 0} → J → View J
first_view x = record { marker = record {}; number = 0; last = x; turn = false; made = 1; gathered = []; shown = 0; met = 0 }

abbrev pub opened : {J : Type 0} → J → Place J
opened x = Live (first_view x)

module _ {J O L : Type 0} (origin : J → O) (lines : J → List L) (number_of : L → ℕ) where
  -- what the view v says is true of the item x, where so many seats were made
  pub record Fits (x : J) (made : ℕ) (v : View J) : Type 0 where
    pub origin_is : origin v.last ≡ origin x
    pub seen : IsPrefix (lines v.last) (lines x)
    pub mine : lines_of number_of v.number (lines v.last) ≡ lines_of number_of v.number (lines x)
    pub below : v.number < made
    pub shown : v.shown ≤ length (lines x)
    pub first : v.number ≡ 0 → v.made ≡ made
    pub taken_in : (k : ℕ) (e : ℕ × J) → get_elem? v.gathered k ≡ some e
        → (e.0 < made) × (origin e.1 ≡ origin x) × IsPrefix (lines e.1) (lines x) × (lines_of number_of e.0 (lines e.1) ≡ lines_of number_of e.0 (lines x))

  pub record Kept (s : State (Option J) (Place J)) : Type 0 where
    pub item : J
    pub made : ℕ
    pub held : ℕ
    pub by : ℕ
    pub word : s.words ≡ (2 * length (lines item) + held) ∷ []
    pub flag : held < 2
    pub few : length (lines item) < 2 ^ 62
    pub home : held ≡ 0 → s.homes ≡ some (Some item) ∷ []
    pub away : held ≡ 1 → s.homes ≡ none ∷ []
    pub numbers : All (λ l. number_of l < made) (lines item)
    pub fits : (j : ℕ) (v : View J) → get_elem? s.views j ≡ some (Live v) → Fits item made v
    pub turns : (j : ℕ) (v : View J) → get_elem? s.views j ≡ some (Live v) → v.turn ≡ true → (held ≡ 1) × (j ≡ by) × (lines v.last ≡ lines item)
    pub holder : held ≡ 1 → (v : View J) × (get_elem? s.views by ≡ some (Live v)) × (v.turn ≡ true)
    pub apart : (i j : ℕ) (v w : View J) → get_elem? s.views i ≡ some (Live v) → get_elem? s.views j ≡ some (Live w) → v.number ≡ w.number → i ≡ j
    pub ended : (i j k : ℕ) (v w : View J) (e : ℕ × J) → get_elem? s.views i ≡ some (Live v) → get_elem? s.views j ≡ some (Live w) → get_elem? v.gathered k ≡ some e → e.0 ≢ w.number

abbrev At : Type 0 → Type 0
At J = Step (Option J)

abbrev Sat : Type 0 → Type 0
Sat J = Me (Option J) (Place J)

module _ {J O L : Type 0} (origin : J → O) (lines : J → List L) (number_of : L → ℕ) where
  -- the word was even and as expected: the seat has the item x now, whose list goes on from what it saw and has no more lines of its own
  abbrev pub took : At J → Sat J → ℕ → Sat J → Type 0
  took st m found m' = (v : View J) → m.0 ≡ Live v → (found ≢ st.first → m' ≡ m)
      × (found ≡ st.first → (x : J) × (m' ≡ (Live record v { last = x; turn = true }, (0, Some x) ∷ m.1)) × (origin v.last ≡ origin x) × IsPrefix (lines v.last) (lines x)
      × (lines_of number_of v.number (lines v.last) ≡ lines_of number_of v.number (lines x)) × (length (lines x) < 2 ^ 62) × (v.shown ≤ length (lines x)))

  -- what the view says is true of the present item, and the word has twice the number of its lines, and one more where the turn is out
  abbrev pub Known : ℕ → View J → Type 0
  Known found v = (x : J) × (made : ℕ) × (held : ℕ) × Fits origin lines number_of x made v × All (λ l. number_of l < made) (lines x) × (held < 2) × (found ≡ 2 * length (lines x) + held)

  abbrev pub knew : At J → Sat J → ℕ → Sat J → Type 0
  knew st m found m' = (m' ≡ m) × ((v : View J) → m.0 ≡ Live v → Known found v)

  -- the word showed how many lines the list has, which are no fewer than were shown before, and whether the turn is out
  abbrev pub looked : At J → Sat J → ℕ → Sat J → Type 0
  looked st m found m' = (v : View J) → m.0 ≡ Live v → (n : ℕ) × (held : ℕ) × (found ≡ 2 * n + held) × (held < 2) × (v.shown ≤ n) × (m' ≡ (Live record v { shown = n; met = v.met + held }, m.1))

  -- the word had the turn out and the list as the seat took it, and the item is back with its new list
  abbrev pub gave : At J → Sat J → ℕ → Sat J → Type 0
  gave st m found m' = (v : View J) (x : J) → m ≡ (Live v, (0, Some x) ∷ []) → (found ≡ 2 * length (lines v.last) + 1) × (m' ≡ (Live record v { last = x; turn = false }, []))

-- the one of two items that has more lines
abbrev pub later : {J L : Type 0} → (J → List L) → J → J → J
later lines x y = if nat_lt (length (lines x)) (length (lines y)) then y else x

module _ {J O L : Type 0} (origin : J → O) (lines : J → List L) (number_of : L → ℕ) where
  -- y goes on from x, and has no more lines of the number n
  abbrev pub GoesOn : ℕ → J → J → Type 0
  GoesOn n x y = (origin x ≡ origin y) × IsPrefix (lines x) (lines y) × (lines_of number_of n (lines x) ≡ lines_of number_of n (lines y))

  -- of what it saw itself and what the seat saw that it took in last, it knows the one with more lines, which goes on from both
  abbrev pub learned : At J → Sat J → ℕ → Sat J → Type 0
  learned st m found m' = (v : View J) (e : ℕ × J) (es : List (ℕ × J)) → m.0 ≡ Live v → v.gathered ≡ e ∷ es
      → (m' ≡ (Live record v { last = later lines v.last e.1 }, m.1)) × GoesOn v.number v.last (later lines v.last e.1) × IsPrefix (lines e.1) (lines (later lines v.last e.1))

module _ {J : Type 0} where
  -- the first seat once it has made another
  abbrev pub cut_left : Place J → Place J
  cut_left Spent = Spent
  cut_left (Live v) = Live record v { made = v.made + 1 }

  -- the seat that it made
  abbrev pub cut_right : Place J → Place J
  cut_right Spent = Spent
  cut_right (Live v) = Live record { marker = record {}; number = v.made; last = v.last; turn = false; made = 0; gathered = []; shown = 0; met = 0 }

  abbrev pub glued : Place J → Place J → Place J
  glued (Live v) (Live w) = Live record v { gathered = (w.number, w.last) ∷ v.gathered }
  glued p q = p
