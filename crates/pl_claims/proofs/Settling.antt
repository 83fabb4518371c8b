-- What is settled, decision by decision.
use Rattle.std.proofs.Common.{◌≡◌, ◌<◌, ◌≤◌, ℕ, Bool, true, false, ◌==◌, nat_lt, if◌then◌else◌, List, [], ◌∷◌, length, Option, Some, None, refl, sym, ap, ◌∙◌, arith}
use Rattle.std.proofs.lemmas.Bool.Decides.{nat_tests}
use Rattle.std.specs.List.{cons_option}
use Rattle.pl_lemmas.proofs.Numbers.{equal_numbers, less_true, turned_number}
use Rattle.pl_state.specs.declared.goal.Goal.{Goal}
use Rattle.pl_events.specs.declared.event.What.{What}
use Rattle.pl_events.specs.declared.event.What.TheVariants.{Answered, Begun, Cleared, Dropped, HostGone, Kept, Lost, Posted, Stopped, Told}
use Rattle.pl_model.specs.declared.decided.Decided.{Decided}
use Rattle.pl_model.specs.declared.errand.Closed.{Closed}
use Rattle.pl_model.specs.declared.fixed.Fixed.{Fixed}
use Rattle.pl_model.specs.Decisions.{Turn, decided_after, decided_at, turn_in, turn_of}
use Rattle.pl_model.specs.Step.{Summary, after, settled}
use Rattle.pl_claims.specs.Follows.{Decides, may_settle}

not_less : (a b : ℕ) → b ≤ a → nat_lt a b ≡ false
not_less a b h = grind (arith, nat_tests)

apart : (a b : ℕ) → (a == b) ≡ false → a ≤ b → a < b
apart a b h low = grind (arith, nat_tests)

module _ (run : Fixed) (answers : List Closed) where
  -- ---- the first goal that is not decided

  -- it has as many goals before it as are decided
  turn_low : (goals : List Goal) (decided : List Decided) (turn : Turn) → turn_in run answers goals decided ≡ Some turn → length decided < length goals
  turn_low [] decided turn h = absurd (let e : None ≡ Some turn = h in cc)
  turn_low (goal ∷ earlier) decided turn h = by (length earlier == length decided) refl h (turn_low earlier decided turn)
    where
      by : (b : Bool) → (length earlier == length decided) ≡ b
          → (if b then Some (turn_of run answers earlier decided goal) else turn_in run answers earlier decided) ≡ Some turn
          → (turn_in run answers earlier decided ≡ Some turn → length decided < length earlier)
          → length decided < length (goal ∷ earlier)
      by true is here rest = let same : length earlier ≡ length decided = equal_numbers (length earlier) (length decided) is in omega arith
      by false is later rest = let low : length decided < length earlier = rest later in omega arith

  turn_none : (goals : List Goal) (decided : List Decided) → turn_in run answers goals decided ≡ None → length goals ≤ length decided
  turn_none [] decided h = omega arith
  turn_none (goal ∷ earlier) decided h = by (length earlier == length decided) refl h (turn_none earlier decided)
    where
      by : (b : Bool) → (length earlier == length decided) ≡ b
          → (if b then Some (turn_of run answers earlier decided goal) else turn_in run answers earlier decided) ≡ None
          → (turn_in run answers earlier decided ≡ None → length earlier ≤ length decided)
          → length (goal ∷ earlier) ≤ length decided
      by true is here rest = absurd (let e : Some (turn_of run answers earlier decided goal) ≡ None = here in cc)
      by false is later rest =
          let less : length earlier < length decided = apart (length earlier) (length decided) is (rest later) in
          omega arith

  -- ---- what is settled

  -- where every goal is decided, nothing more is
  settled_all : (goals : List Goal) (decided : List Decided) → length goals ≤ length decided → settled run answers decided goals ≡ decided
  settled_all [] decided short = refl
  settled_all (goal ∷ earlier) decided short =
      let low : length earlier < length decided = omega arith in
      ap (λ (b : Bool). if b then decided else decided_after run answers goal earlier (settled run answers decided earlier))
      (less_true (length earlier) (length decided) low)

  -- where a goal is not decided, it is decided after those before it
  settled_later : (goal : Goal) (earlier : List Goal) (decided : List Decided) → length decided ≤ length earlier
      → settled run answers decided (goal ∷ earlier) ≡ decided_after run answers goal earlier (settled run answers decided earlier)
  settled_later goal earlier decided high =
      ap (λ (b : Bool). if b then decided else decided_after run answers goal earlier (settled run answers decided earlier))
      (not_less (length earlier) (length decided) high)

  -- what the next goal's turn gives is decided
  decided_here : (goal : Goal) (earlier : List Goal) (decided : List Decided) (one : Option Decided)
      → (length earlier == length decided) ≡ true → decided_at (turn_of run answers earlier decided goal) ≡ one
      → settled run answers decided (goal ∷ earlier) ≡ cons_option one decided
  decided_here goal earlier decided one is gives =
      let same : length earlier ≡ length decided = equal_numbers (length earlier) (length decided) is in
      settled_later goal earlier decided (omega arith)
      ∙ ap (decided_after run answers goal earlier) (settled_all earlier decided (omega arith))
      ∙ ap (λ (b : Bool). cons_option (if b then decided_at (turn_of run answers earlier decided goal) else None) decided)
      (turned_number (length decided) (length earlier) ∙ is)
      ∙ ap (λ (o : Option Decided). cons_option o decided) gives

  same_turn : (a b : Turn) → Some a ≡ Some b → a ≡ b
  same_turn a b h = cc

  decided_one : (goals : List Goal) (decided : List Decided) (turn : Turn) (one : Decided)
      → turn_in run answers goals decided ≡ Some turn → decided_at turn ≡ Some one
      → settled run answers decided goals ≡ settled run answers (one ∷ decided) goals
  decided_one [] decided turn one next gives = absurd (let e : None ≡ Some turn = next in cc)
  decided_one (goal ∷ earlier) decided turn one next gives =
      by (length earlier == length decided) refl next (λ later. decided_one earlier decided turn one later gives)
    where
      by : (b : Bool) → (length earlier == length decided) ≡ b
          → (if b then Some (turn_of run answers earlier decided goal) else turn_in run answers earlier decided) ≡ Some turn
          → (turn_in run answers earlier decided ≡ Some turn → settled run answers decided earlier ≡ settled run answers (one ∷ decided) earlier)
          → settled run answers decided (goal ∷ earlier) ≡ settled run answers (one ∷ decided) (goal ∷ earlier)
      by true is here rest =
          let same : length earlier ≡ length decided = equal_numbers (length earlier) (length decided) is in
          decided_here goal earlier decided (Some one) is
          (ap decided_at (same_turn (turn_of run answers earlier decided goal) turn here) ∙ gives)
          ∙ sym (settled_all (goal ∷ earlier) (one ∷ decided) (omega arith))
      by false is later rest =
          let low : length decided < length earlier = turn_low earlier decided turn later in
          settled_later goal earlier decided (omega arith)
          ∙ ap (decided_after run answers goal earlier) (rest later)
          ∙ sym (settled_later goal earlier (one ∷ decided) (omega arith))

  decided_none : (goals : List Goal) (decided : List Decided) (turn : Turn)
      → turn_in run answers goals decided ≡ Some turn → decided_at turn ≡ None → settled run answers decided goals ≡ decided
  decided_none [] decided turn next gives = refl
  decided_none (goal ∷ earlier) decided turn next gives =
      by (length earlier == length decided) refl next (λ later. decided_none earlier decided turn later gives)
    where
      by : (b : Bool) → (length earlier == length decided) ≡ b
          → (if b then Some (turn_of run answers earlier decided goal) else turn_in run answers earlier decided) ≡ Some turn
          → (turn_in run answers earlier decided ≡ Some turn → settled run answers decided earlier ≡ decided)
          → settled run answers decided (goal ∷ earlier) ≡ decided
      by true is here rest =
          decided_here goal earlier decided None is
          (ap decided_at (same_turn (turn_of run answers earlier decided goal) turn here) ∙ gives)
      by false is later rest =
          let low : length decided < length earlier = turn_low earlier decided turn later in
          settled_later goal earlier decided (omega arith)
          ∙ ap (decided_after run answers goal earlier) (rest later)
          ∙ ap (λ (b : Bool). cons_option (if b then decided_at (turn_of run answers earlier decided goal) else None) decided)
          (turned_number (length decided) (length earlier) ∙ is)

pub one_decided : (run : Fixed) (answers : List Closed) (goals : List Goal) (decided : List Decided) (one : Decided)
    → Decides run answers goals decided (Some one)
    → settled run answers decided goals ≡ settled run answers (one ∷ decided) goals
one_decided run answers goals decided one next = decided_one run answers goals decided next.turn one next.is_next next.gives

pub settled_waits : (run : Fixed) (answers : List Closed) (goals : List Goal) (decided : List Decided)
    → Decides run answers goals decided None → settled run answers decided goals ≡ decided
settled_waits run answers goals decided next = decided_none run answers goals decided next.turn next.is_next next.gives

pub settled_over : (run : Fixed) (answers : List Closed) (goals : List Goal) (decided : List Decided)
    → turn_in run answers goals decided ≡ None → settled run answers decided goals ≡ decided
settled_over run answers goals decided none = settled_all run answers goals decided (turn_none run answers goals decided none)

-- ---- events

pub stays : (run : Fixed) (before : Summary) (seat : ℕ) (what : What) → may_settle what ≡ false
    → (after run before (record { seat = seat; what = what })).decided ≡ before.decided
stays run before seat (Told request) other = absurd cc
stays run before seat (HostGone end) other = refl
stays run before seat (Begun ticket lane about) other = refl
stays run before seat (Answered ticket reply) other = absurd cc
stays run before seat (Lost ticket why) other = refl
stays run before seat (Kept goal fresh) other = refl
stays run before seat (Dropped row) other = refl
stays run before seat (Cleared at) other = refl
stays run before seat (Posted n) other = refl
stays run before seat (Stopped stop) other = refl
