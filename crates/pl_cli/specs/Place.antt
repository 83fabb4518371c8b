-- The places of the words before the separator: the role of each, and whether the word may stand there.
-- A place counts from 0, and the list of words has those before the separator alone.
use Rattle.std.specs.Prelude.{◌==◌, ◌+◌, ◌-◌, ℕ, List, [], Bool, true, false, not, ◌&&◌, ◌||◌, Option, Some, None, length, take, slice_get, slice_index_or, nat_lt, position, count_by, find, is_some, option_map, unwrap_or, if◌then◌else◌}
use Rattle.std.specs.List.{range_with_len}
use Rattle.std.specs.Option.{option_map_or}
use Rattle.std.specs.Str.{bytes_eq}
use Rattle.pl_cli.specs.Table.{option_named, option_text, forms_of, fits}
use Rattle.pl_cli.specs.Word.{begins_with_dash, name_part, own_value}
use Rattle.pl_cli.specs.declared.table.CommandName.{CommandName}
use Rattle.pl_cli.specs.declared.table.OptionName.{OptionName}
use Rattle.pl_cli.specs.declared.table.Form.{Form}
use Rattle.pl_cli.specs.declared.table.OptionRow.{OptionRow}
use Rattle.pl_cli.specs.declared.place.Role.{Role}
use Rattle.pl_cli.specs.declared.place.Role.TheVariants.{Command, KnownOption, UnknownOption, Value, Positional}

-- the word at a place; where there is none, the empty word
abbrev pub word_at : List (List ℕ) → ℕ → List ℕ
word_at words place = slice_index_or words place []

-- the row of the option that the word names, if the command knows it
abbrev pub option_row : CommandName → List ℕ → Option OptionRow
option_row command word = option_named command (name_part word)

-- a known option without a value of its own waits for one, unless it is a flag
abbrev pub form_wanted : Option OptionRow → Option (List ℕ) → Option Form
form_wanted None _ = None
form_wanted (Some row) None = row.value
form_wanted (Some row) (Some _) = None

-- the form of the value that the word makes the next one be, if it does
abbrev pub form_after : CommandName → List ℕ → Option Form
form_after command word = form_wanted (option_row command word) (own_value word)

-- what a word with a dash is
abbrev pub dashed_role : Option OptionRow → Role
dashed_role None = UnknownOption
dashed_role (Some row) = KnownOption row

-- what a word without a dash is
abbrev pub plain_role : Option Form → Role
plain_role None = Positional
plain_role (Some form) = Value form

-- what the word at a place is: the first one is the command; a later one that begins with a dash is an
-- option; one that doesn't is the value of the option before it, where that waits for one, and else a
-- positional word
unfoldable pub role_of : CommandName → List (List ℕ) → ℕ → Role
role_of command words place =
    if place == 0 then Command else
    (if begins_with_dash (word_at words place)
    then dashed_role (option_row command (word_at words place))
    else plain_role (form_after command (word_at words (place - 1))))

-- whether the word is this option, with or without a value of its own
abbrev pub names_option : OptionName → List ℕ → Bool
names_option option word = bytes_eq (name_part word) (option_text option)

-- the value that stands with the option at a place: its own one, or the next word
abbrev pub value_at : List (List ℕ) → ℕ → List ℕ
value_at words place = unwrap_or (own_value (word_at words place)) (word_at words (place + 1))

-- the value that is given for an option, at the first word that is this option
unfoldable pub given_value : OptionName → List (List ℕ) → Option (List ℕ)
given_value option words = option_map (value_at words) (position (names_option option) words)

-- whether an option is among the words
abbrev pub is_given : OptionName → List (List ℕ) → Bool
is_given option words = is_some (given_value option words)

-- whether the next word may be a value: it is there, and doesn't begin with a dash
abbrev pub value_follows : List (List ℕ) → ℕ → Bool
value_follows words place =
    nat_lt (place + 1) (length words) && not (begins_with_dash (word_at words (place + 1)))

-- whether an option has the value that its row asks for: a flag has none; a value of its own has the
-- row's form; else a value follows, whose form is judged at its own place
abbrev pub has_value : Option Form → Option (List ℕ) → Bool → Bool
has_value None None _ = true
has_value None (Some _) _ = false
has_value (Some form) (Some value) _ = fits form value
has_value (Some form) None follows = follows

-- whether the word is a positional one
abbrev pub is_positional : Role → Bool
is_positional Positional = true
is_positional Command = false
is_positional (KnownOption _) = false
is_positional UnknownOption = false
is_positional (Value _) = false

-- how many positional words stand before a place
unfoldable pub positional_before : CommandName → List (List ℕ) → ℕ → ℕ
positional_before command words place =
    count_by (λ earlier. is_positional (role_of command words earlier)) (range_with_len 0 place)

-- the first positional word of a command's words
unfoldable pub first_positional : CommandName → List (List ℕ) → Option (List ℕ)
first_positional command words =
    option_map (word_at words)
    (find (λ place. is_positional (role_of command words place)) (range_with_len 0 (length words)))

-- whether a word at a place may stand there in this role
abbrev pub may_stand_as : Role → CommandName → List (List ℕ) → ℕ → Bool
may_stand_as Command command words place = true
may_stand_as (KnownOption row) command words place =
    (row.repeatable || not (is_given row.option (take place words)))
    && has_value row.value (own_value (word_at words place)) (value_follows words place)
may_stand_as UnknownOption command words place = false
may_stand_as (Value form) command words place = fits form (word_at words place)
may_stand_as Positional command words place =
    option_map_or (λ form. fits form (word_at words place))
    (slice_get (forms_of command) (positional_before command words place)) false

-- whether the word at a place may stand there, after the words before it
unfoldable pub may_stand : CommandName → List (List ℕ) → ℕ → Bool
may_stand command words place = may_stand_as (role_of command words place) command words place
