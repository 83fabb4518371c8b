-- A told request keeps its fate, since a later one has a number above its own.
use Rattle.std.proofs.Common.{◌≡◌, ℕ, ◌==◌, ◌≤◌, ◌<◌, Bool, true, false, if◌then◌else◌, nat_lt, find, List, [], ◌∷◌, Option, Some, None, refl, sym, subst, arith}
use Rattle.std.proofs.lemmas.Bool.Decides.{nat_tests}
use Rattle.pl_lemmas.proofs.Numbers.{equal_numbers}
use Rattle.pl_events.specs.declared.event.Event.{Event}
use Rattle.pl_events.specs.declared.event.Request.{Request}
use Rattle.pl_events.specs.declared.event.What.{What}
use Rattle.pl_events.specs.declared.event.What.TheVariants.{Told}
use Rattle.pl_model.specs.declared.fixed.Fixed.{Fixed}
use Rattle.pl_model.specs.declared.heard.Fate.{Fate}
use Rattle.pl_model.specs.declared.heard.Fate.TheVariants.{Accepted as accepted, Halted as halted, Refused as refused}
use Rattle.pl_model.specs.declared.heard.Heard.{Heard}
use Rattle.pl_model.specs.History.{asked_after, known_of}
use Rattle.pl_model.specs.Known.{Known, asked_at, number_of}
use Rattle.pl_model.specs.Legal.{IsOrderly, MayHappen, last_of}
use Rattle.pl_model.specs.Requests.{asked_by, fate_of}
use Rattle.pl_model_stays.proofs.Lists.Growing.{other_numbers}

below : (a b : ℕ) → nat_lt a b ≡ true → a < b
below a b h = grind (arith, nat_tests)

-- ---- lists of told requests

-- the told request of a number
abbrev found_in : List Heard → ℕ → Option Heard
found_in requests n = find (λ asked. number_of asked.request == n) requests

-- no told request has a number above the newest one's
abbrev IsRising : List Heard → Type 0
IsRising requests = (n : ℕ) (asked : Heard) → found_in requests n ≡ Some asked → n ≤ last_of requests

-- a request with a number above the newest one's may come before them
rising_more : (one : Heard) (requests : List Heard) → last_of requests < number_of one.request → IsRising requests → IsRising (one ∷ requests)
rising_more one requests above rising n asked h = by (number_of one.request == n) refl h
  where
    by : (b : Bool) → (number_of one.request == n) ≡ b → (if b then Some one else found_in requests n) ≡ Some asked → n ≤ number_of one.request
    by true is h = let same : number_of one.request ≡ n = equal_numbers (number_of one.request) n is in omega arith
    by false is h = let least : n ≤ last_of requests = rising n asked h in omega arith

-- and then those behind it are found as before
found_more : (one : Heard) (requests : List Heard) → last_of requests < number_of one.request → IsRising requests
    → (n : ℕ) (asked : Heard) → found_in requests n ≡ Some asked → found_in (one ∷ requests) n ≡ Some asked
found_more one requests above rising n asked h =
    let least : n ≤ last_of requests = rising n asked h in
    let less : n < number_of one.request = omega arith in
    rw (other_numbers n (number_of one.request) less) h

-- ---- events

-- what is told is the request
same_request : (known : Known) (request : Request) (fate : Fate) → (asked_by known request fate).request ≡ request
same_request known request accepted = refl
same_request known request halted = refl
same_request known request (refused problem) = refl

module _ (run : Fixed) where
  -- a request that may be told has a number above the newest one's
  told_above : (known : Known) (seat : ℕ) (request : Request) → MayHappen known seat (Told request)
      → last_of known.asked < number_of (asked_by known request (fate_of known request)).request
  told_above known seat request may =
      subst (λ (one : Request). last_of known.asked < number_of one) (sym (same_request known request (fate_of known request)))
      (below (last_of known.asked) (number_of request) may.next)

  rising_after : (known : Known) (seat : ℕ) (what : What) → MayHappen known seat what → IsRising known.asked → IsRising (asked_after known what)
  rising_after known seat (Told request) may rising =
      rising_more (asked_by known request (fate_of known request)) known.asked (told_above known seat request may) rising
  rising_after known seat _ may rising = rising

  found_after : (known : Known) (seat : ℕ) (what : What) → MayHappen known seat what → IsRising known.asked
      → (n : ℕ) (asked : Heard) → found_in known.asked n ≡ Some asked → found_in (asked_after known what) n ≡ Some asked
  found_after known seat (Told request) may rising n asked h =
      found_more (asked_by known request (fate_of known request)) known.asked (told_above known seat request may) rising n asked h
  found_after known seat _ may rising n asked h = h

  -- the numbers of an orderly history's requests rise
  rising_of : (history : List Event) → IsOrderly run history → IsRising (known_of run history).asked
  unfolding known_of
  rising_of [] orderly = λ n asked h. absurd (let e : None ≡ Some asked = h in cc)
  rising_of (event ∷ past) orderly = rising_after (known_of run past) event.seat event.what orderly.1 (rising_of past orderly.0)

  pub requests-stay : (event : Event) (past : List Event) (n : ℕ) (asked : Heard) → IsOrderly run (event ∷ past)
      → asked_at (known_of run past) n ≡ Some asked → asked_at (known_of run (event ∷ past)) n ≡ Some asked
  unfolding known_of
  requests-stay event past n asked orderly h =
      found_after (known_of run past) event.seat event.what orderly.1 (rising_of past orderly.0) n asked h
