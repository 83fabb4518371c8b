-- What the toy replies to each call, and what the call makes of the things on the shelf.
use Rattle.std.specs.Prelude.{⊤, ◌≡◌, ◌⊎◌, ℕ, nat_lt, List, [], ◌∷◌, ◌++◌, length, codes, find, Bool, true, false, ◌||◌, if◌then◌else◌, Option, Some, None, is_none, option_and_then, IfSome}
use Rattle.std.specs.Fmt.{decimal}
use Rattle.pl_world.specs.Numbers.{numbers_to}
use Rattle.pl_urn.specs.Grammar.{name_of}
use Rattle.pl_value.specs.Keys.{value_at}
use Rattle.pl_value.specs.Same.{fields_same, value_same}
use Rattle.pl_value.specs.declared.value.Value.{Value}
use Rattle.pl_value.specs.declared.value.Value.TheVariants as value
use Rattle.pl_json.specs.Spelled.{fields_text}
use Rattle.pl_state.specs.declared.goal.Diffed.{Diffed}
use Rattle.pl_state.specs.declared.goal.Changes.TheVariants.{NoChange, SomeChange}
use Rattle.pl_events.specs.declared.operation.Ask.{Ask}
use Rattle.pl_events.specs.declared.operation.Ask.TheVariants as ask
use Rattle.pl_events.specs.declared.reply.Reply.{Reply}
use Rattle.pl_events.specs.declared.reply.Reply.TheVariants.{Checked, CheckFailed, Configured, Diffed as Compared, Made, Changed, Removed, Found, Gone, Result, Error}
use Rattle.pl_json.specs.Texts.{json_of}
use Rattle.pl_members.specs.Field.{Pairs, pairs_of}
use Rattle.pl_toy.specs.declared.create.Place.{Place}
use Rattle.pl_toy.specs.declared.create.Place.TheVariants.{Under, LongName, Full}
use Rattle.pl_toy.specs.Things.{Things, with_thing, without_thing, Became, IsKeptOrBecame}

-- a fact about the things on the shelf: those that it tells, and some things where it tells none
abbrev pub ForHeld : Option Things → (Things → Type 0) → Type 0
ForHeld told P = (held : Things) × IfSome told (λ things. things ≡ held) × P held

-- ---- ids

-- the most bytes of an id
abbrev pub longest_id : ℕ
longest_id = 100

-- how many numbers a name has
unfoldable pub most_numbers : ℕ
most_numbers = 1000

-- whether an id has more bytes than an id may have
abbrev pub is_long : List ℕ → Bool
is_long id = nat_lt longest_id (length id)

-- the id of a thing by its name and its number
abbrev pub numbered : List ℕ → ℕ → List ℕ
numbered name number = name ++ codes "-" ++ decimal number

-- whether an id is too long, or no thing has it
abbrev pub ends_search : Things → List ℕ → Bool
ends_search held id = is_long id || is_none (held id)

-- the least number from 1 on whose id is too long or free, if there is one
unfoldable pub number_for : Things → List ℕ → Option ℕ
number_for held name = find (λ number. ends_search held (numbered name number)) (numbers_to most_numbers)

-- where a new thing of the name goes, by that number
abbrev pub place_by : List ℕ → Option ℕ → Place
place_by name None = Full
place_by name (Some number) = if is_long (numbered name number) then LongName else Under (numbered name number)

-- with the bytes at that place, if it is one
abbrev pub with_placed : List ℕ → Place → Things → Things
with_placed bytes (Under id) = with_thing id bytes
with_placed bytes LongName = λ held. held
with_placed bytes Full = λ held. held

-- with the bytes of a new thing of the name
abbrev pub with_created : List ℕ → List ℕ → Things → Things
with_created name bytes held = with_placed bytes (place_by name (number_for held name)) held

-- a fact for the case that a new thing has no place
abbrev pub IfNowhere : Place → Type 0 → Type 0
IfNowhere (Under id) P = ⊤
IfNowhere LongName P = P
IfNowhere Full P = P

-- ---- replies

-- the answer to an id that is too long
abbrev pub long_name : Reply
long_name = Error (codes "long name")

-- the reply that is given unless the id is too long
abbrev pub unless_long : List ℕ → Reply → Reply
unless_long id reply = if is_long id then long_name else reply

-- the inputs as they came, or that they are refused, by what stands under `refuse`
abbrev pub checked_by : List (List ℕ × Value) → Option Value → Reply
checked_by inputs (Some (value.Text reason)) = CheckFailed ((codes "refuse", reason) ∷ [])
checked_by inputs _ = Checked inputs

-- whether a value is the flag that is set
abbrev pub is_set : Option Value → Bool
is_set (Some (value.Flag flag)) = flag
is_set _ = false

-- whether two values that may be absent are the same
abbrev pub same_if_there : Option Value → Option Value → Bool
same_if_there None None = true
same_if_there None (Some new) = false
same_if_there (Some old) None = false
same_if_there (Some old) (Some new) = value_same old new

-- the keys whose change makes a new thing: `fixed` where it changed
abbrev pub replaces_of : List (List ℕ × Value) → List (List ℕ × Value) → List (List ℕ)
replaces_of old new =
    if same_if_there (value_at (codes "fixed") old) (value_at (codes "fixed") new) then [] else codes "fixed" ∷ []

-- what differs between the old inputs and the new
abbrev pub diff_of : List (List ℕ × Value) → List (List ℕ × Value) → Diffed
diff_of old new =
    if fields_same old new
    then record { changes = NoChange; replaces = []; delete_before_replace = false }
    else record { changes = SomeChange; replaces = replaces_of old new; delete_before_replace = is_set (value_at (codes "first") new) }

-- the thing that was made of these inputs, or why there is none
abbrev pub made_at : List (List ℕ × Value) → Place → Reply
made_at inputs (Under id) = Made id inputs
made_at inputs LongName = long_name
made_at inputs Full = Error (codes "shelf full")

-- the inputs that a thing's bytes spell; bytes that spell no object of values are no thing
abbrev pub inputs_of : Option (List ℕ) → Option Pairs
inputs_of bytes = option_and_then pairs_of (option_and_then json_of bytes)

-- the thing as it is found; nothing has the empty id
abbrev pub found_by : List ℕ → Option Pairs → Reply
found_by [] found = Gone
found_by (byte ∷ more) None = Gone
found_by (byte ∷ more) (Some inputs) = Found (byte ∷ more) (Some inputs) inputs

-- the reply to a call over a shelf that holds these things
abbrev pub toy_reply : Ask → Things → Reply
toy_reply (ask.CheckConfig urn inputs old) held = Checked inputs
toy_reply (ask.Configure inputs) held = Configured
toy_reply (ask.Check urn inputs old) held = checked_by inputs (value_at (codes "refuse") inputs)
toy_reply (ask.Diff urn id old_inputs old_outputs inputs) held = Compared (diff_of old_inputs inputs)
toy_reply (ask.Create urn inputs) held = made_at inputs (place_by (name_of urn) (number_for held (name_of urn)))
toy_reply (ask.Update urn id old_inputs old_outputs inputs) held = unless_long id (Changed inputs)
toy_reply (ask.Delete urn id inputs outputs) held = unless_long id Removed
toy_reply (ask.Read urn id inputs outputs) held = unless_long id (found_by id (inputs_of (held id)))
toy_reply (ask.Invoke token args) held = Result args

-- ---- things

-- the change of the thing of an id, which is none where the id is too long
abbrev pub changed_unless_long : List ℕ → (Things → Things) → Things → Things
changed_unless_long id change = if is_long id then (λ held. held) else change

-- what the call makes of the things on the shelf
abbrev pub toy_things : Ask → Things → Things
toy_things (ask.Create urn inputs) = with_created (name_of urn) (fields_text inputs)
toy_things (ask.Update urn id old_inputs old_outputs inputs) = changed_unless_long id (with_thing id (fields_text inputs))
toy_things (ask.Delete urn id inputs outputs) = changed_unless_long id (without_thing id)
toy_things _ = λ held. held

-- ---- answers

-- the reply is the table's
abbrev pub IsByTable : Ask → Option Things → Reply → Type 0
IsByTable asked told reply = ForHeld told (λ held. reply ≡ toy_reply asked held)

-- the answer to a fault of the shelf
abbrev pub shelf_failed : Reply
shelf_failed = Error (codes "shelf")

-- the call was carried out by the table
pub record IsDone (asked : Ask) (reply : Reply) (before now : Option Things) : Type 0 where
  pub by_table : IsByTable asked before reply
  pub things : Became (toy_things asked) before now

-- the shelf failed: the call may have been carried out all the same; `rising` says that the shelf's count of faults rose
pub record IsFailed (asked : Ask) (reply : Reply) (before now : Option Things) (rising : Type 0) : Type 0 where
  pub told : reply ≡ shelf_failed
  pub things : IsKeptOrBecame (toy_things asked) before now
  pub rose : rising

-- what is replied to a call, and what became of the things on the shelf
abbrev pub IsReplied : Ask → Reply → Option Things → Option Things → Type 0 → Type 0
IsReplied asked reply before now rising = IsDone asked reply before now ⊎ IsFailed asked reply before now rising
