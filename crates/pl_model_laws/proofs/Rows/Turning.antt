-- How the turns of aliases change a row and a URN.
use Rattle.std.proofs.Common.{◌≡◌, ℕ, Bool, true, false, if◌then◌else◌, List, [], ◌∷◌, ◌++◌, map, fold, reverse, filter_map, bytes_eq, Option, Some, None, refl, sym, ◌∙◌, ap, ap₂, option_map, option_and_then}
use Rattle.std.proofs.lemmas.List.{map-id, reverse-append}
use Rattle.std.proofs.lemmas.List.Elements.{filter_map-append}
use Rattle.std.proofs.lemmas.Slice.Eq.{bytes_eq-Decides}
use Rattle.std.specs.List.{cons_option}
use Rattle.std.proofs.lemmas.Option.{same_Some}
use Rattle.pl_state.specs.declared.entry.Entry.{Entry}
use Rattle.pl_state.specs.declared.goal.Goal.{Goal}
use Rattle.pl_model.specs.Entries.{Turning, turned, turned_entry, turned_reference, turning_of, turnings}
use Rattle.pl_model.specs.Known.{Known, claim_row, goal_at}
use Rattle.pl_model.specs.Recording.{recorded_of}

-- ---- rows under all turns

-- a URN after these turns
abbrev pub turned_by : List Turning → List ℕ → List ℕ
turned_by turns urn = fold (λ (text : List ℕ) (turning : Turning). turned turning text) urn turns

-- the values of a property with the URNs that they depend on
abbrev pub Keyed : Type 0
Keyed = List ℕ × List (List ℕ)

abbrev pub keyed_by : (List ℕ → List ℕ) → Keyed → Keyed
keyed_by change pair = (pair.0, map change pair.1)

-- what is there, changed
abbrev pub changed : {X : Type 0} → Option X → (X → X) → Option X
changed o change = option_map change o

-- what turns change of a row
pub record IsTurned (turns : List Turning) (entry later : Entry) : Type 0 where
  pub urn : later.urn ≡ turned_by turns entry.urn
  pub id : later.id ≡ entry.id
  pub parent : later.parent ≡ option_map (turned_by turns) entry.parent
  pub provider : later.provider ≡ changed entry.provider (λ reference. record reference { urn = turned_by turns reference.urn })
  pub dependencies : later.dependencies ≡ map (turned_by turns) entry.dependencies
  pub property_dependencies : later.property_dependencies ≡ map (keyed_by (turned_by turns)) entry.property_dependencies
  pub deleted_with : later.deleted_with ≡ option_map (turned_by turns) entry.deleted_with

option_same : {X : Type 0} (o : Option X) → o ≡ option_map (λ (x : X). x) o
option_same None = refl
option_same (Some x) = refl

option_twice : {X : Type 0} (first second : X → X) (o : Option X)
    → option_map second (option_map first o) ≡ option_map (λ (x : X). second (first x)) o
option_twice first second None = refl
option_twice first second (Some x) = refl

map_twice : {X : Type 0} (first second : X → X) (xs : List X) → map second (map first xs) ≡ map (λ (x : X). second (first x)) xs
map_twice first second [] = refl
map_twice {X = X} first second (x ∷ xs) = ap (λ (ys : List X). second (first x) ∷ ys) (map_twice first second xs)

pairs_same : (pairs : List Keyed) → pairs ≡ map (keyed_by (λ (urn : List ℕ). urn)) pairs
pairs_same [] = refl
pairs_same (pair ∷ pairs) =
    ap₂ (λ (first : Keyed) (others : List Keyed). first ∷ others)
    (ap (λ (urns : List (List ℕ)). let one : Keyed = (pair.0, urns) in one) (sym (map-id pair.1))) (pairs_same pairs)

pairs_twice : (first second : List ℕ → List ℕ) (pairs : List Keyed)
    → map (keyed_by second) (map (keyed_by first) pairs) ≡ map (keyed_by (λ (urn : List ℕ). second (first urn))) pairs
pairs_twice first second [] = refl
pairs_twice first second (pair ∷ pairs) =
    ap₂ (λ (one : Keyed) (others : List Keyed). one ∷ others)
    (ap (λ (urns : List (List ℕ)). let one : Keyed = (pair.0, urns) in one) (map_twice first second pair.1)) (pairs_twice first second pairs)

-- the turns change a row's URNs, its own and those of its references, and nothing else that is asked of it
pub row-turned : (turns : List Turning) (entry : Entry) → IsTurned turns entry (fold turned_entry entry turns)
row-turned [] entry = record {
  urn = refl;
  id = refl;
  parent = option_same entry.parent;
  provider = option_same entry.provider;
  dependencies = sym (map-id entry.dependencies);
  property_dependencies = pairs_same entry.property_dependencies;
  deleted_with = option_same entry.deleted_with;
}
row-turned (turning ∷ turns) entry =
    let rest : IsTurned turns (turned_entry entry turning) (fold turned_entry (turned_entry entry turning) turns) =
    row-turned turns (turned_entry entry turning) in
    record {
      urn = rest.urn;
      id = rest.id;
      parent = rest.parent ∙ option_twice (turned turning) (turned_by turns) entry.parent;
      provider = rest.provider ∙ option_twice (turned_reference turning)
          (λ reference. record reference { urn = turned_by turns reference.urn }) entry.provider;
      dependencies = rest.dependencies ∙ map_twice (turned turning) (turned_by turns) entry.dependencies;
      property_dependencies = rest.property_dependencies ∙ pairs_twice (turned turning) (turned_by turns) entry.property_dependencies;
      deleted_with = rest.deleted_with ∙ option_twice (turned turning) (turned_by turns) entry.deleted_with;
    }

-- ---- one turn after another

-- a URN after the turn of one goal, if it has one
abbrev pub turned_at : Option Turning → List ℕ → List ℕ
turned_at None urn = urn
turned_at (Some turning) urn = turned turning urn

-- a URN after the turns of these goals, which stand newest first
abbrev pub turned_of : Known → List ℕ → List ℕ → List ℕ
turned_of known [] urn = urn
turned_of known (newest ∷ older) urn = turned_at (turning_of known newest) (turned_of known older urn)

turned_append : (turns more : List Turning) (urn : List ℕ) → turned_by (turns ++ more) urn ≡ turned_by more (turned_by turns urn)
turned_append [] more urn = refl
turned_append (turning ∷ turns) more urn = turned_append turns more (turned turning urn)

turned_one : (o : Option Turning) (urn : List ℕ) → turned_by (cons_option o []) urn ≡ turned_at o urn
turned_one None urn = refl
turned_one (Some turning) urn = refl

turned_in_order : (known : Known) (numbers : List ℕ) (urn : List ℕ)
    → turned_by (filter_map (turning_of known) (reverse numbers)) urn ≡ turned_of known numbers urn
turned_in_order known [] urn = refl
turned_in_order known (newest ∷ older) urn =
    ap (λ (all : List ℕ). turned_by (filter_map (turning_of known) all) urn) (reverse-append (newest ∷ []) older)
    ∙ ap (λ (turns : List Turning). turned_by turns urn) (filter_map-append (turning_of known) (reverse older) (newest ∷ []))
    ∙ turned_append (filter_map (turning_of known) (reverse older)) (filter_map (turning_of known) (newest ∷ [])) urn
    ∙ turned_one (turning_of known newest) (turned_by (filter_map (turning_of known) (reverse older)) urn)
    ∙ ap (turned_at (turning_of known newest)) (turned_in_order known older urn)

-- all turns, one after another
pub turned-of : (known : Known) (urn : List ℕ) → turned_by (turnings known) urn ≡ turned_of known (recorded_of known.history) urn
turned-of known urn = turned_in_order known (recorded_of known.history) urn

-- ---- what a turn is

abbrev turning_to : Entry → Goal → Turning
turning_to row goal = record { old = row.urn; new = goal.urn }

-- the goal whose claim is turned, and the row
pub record IsTurning (known : Known) (number : ℕ) (turning : Turning) : Type 0 where
  pub goal : Goal
  pub row : Entry
  pub stands : goal_at known number ≡ Some goal
  pub claims : claim_row known number ≡ Some row
  pub from : turning.old ≡ row.urn
  pub to : turning.new ≡ goal.urn

pub turning_parts : (known : Known) (number : ℕ) (turning : Turning) → turning_of known number ≡ Some turning → IsTurning known number turning
turning_parts known number turning h = by (goal_at known number) refl (claim_row known number) refl h
  where
    named : (goal : Goal) (row : Entry) (b : Bool) → (if b then None else Some (turning_to row goal)) ≡ Some turning
        → turning_to row goal ≡ turning
    named goal row true h = absurd (let e : None ≡ Some turning = h in cc)
    named goal row false h = same_Some (turning_to row goal) turning h

    by : (of : Option Goal) → goal_at known number ≡ of → (over : Option Entry) → claim_row known number ≡ over
        → option_and_then (λ (goal : Goal). option_and_then (λ (row : Entry).
        if bytes_eq row.urn goal.urn then None else Some (turning_to row goal)) over) of ≡ Some turning
        → IsTurning known number turning
    by None is over at h = absurd (let e : None ≡ Some turning = h in cc)
    by (Some goal) is None at h = absurd (let e : None ≡ Some turning = h in cc)
    by (Some goal) is (Some row) at h =
        let same : turning_to row goal ≡ turning = named goal row (bytes_eq row.urn goal.urn) h in
        record {
          goal = goal;
          row = row;
          stands = is;
          claims = at;
          from = ap (λ (one : Turning). one.old) (sym same);
          to = ap (λ (one : Turning). one.new) (sym same);
        }

-- the turn of a goal makes the URN of its claim its own
pub own-turn : (known : Known) (number : ℕ) (goal : Goal) (row : Entry) → goal_at known number ≡ Some goal → claim_row known number ≡ Some row
    → turned_at (turning_of known number) row.urn ≡ goal.urn
own-turn known number goal row stands claims =
    ap (λ (of : Option Goal). turned_at (option_and_then (λ (one : Goal). option_and_then (λ (its : Entry).
    if bytes_eq its.urn one.urn then None else Some (turning_to its one)) (claim_row known number)) of) row.urn) stands
    ∙ ap (λ (over : Option Entry). turned_at (option_and_then (λ (its : Entry).
    if bytes_eq its.urn goal.urn then None else Some (turning_to its goal)) over) row.urn) claims
    ∙ by (bytes_eq row.urn goal.urn) refl
  where
    by : (b : Bool) → bytes_eq row.urn goal.urn ≡ b → turned_at (if b then None else Some (turning_to row goal)) row.urn ≡ goal.urn
    by true is = (bytes_eq-Decides row.urn goal.urn).0 is
    by false is = ap (λ (b : Bool). if b then goal.urn else row.urn) ((bytes_eq-Decides row.urn row.urn).1 refl)

-- a turn of another URN changes nothing
pub other-turn : (o : Option Turning) (urn : List ℕ) → ((turning : Turning) → o ≡ Some turning → urn ≡ turning.old → ⊥)
    → turned_at o urn ≡ urn
other-turn None urn other = refl
other-turn (Some turning) urn other = by (bytes_eq urn turning.old) refl
  where
    by : (b : Bool) → bytes_eq urn turning.old ≡ b → (if b then turning.new else urn) ≡ urn
    by true is = absurd (other turning refl ((bytes_eq-Decides urn turning.old).0 is))
    by false is = refl
