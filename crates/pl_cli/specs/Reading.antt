-- The words of the command line as a whole.
use Rattle.std.specs.Prelude.{ℕ, option_and_then, List, [], ◌∷◌, Bool, true, false, not, ◌&&◌, ◌||◌, Option, Some, None, codes, length, nat_le, find, unwrap_or, if◌then◌else◌}
use Rattle.std.specs.List.{list_all, range_with_len, before_first, after_first}
use Rattle.std.specs.Option.{option_or}
use Rattle.pl_cli.specs.Table.{command_named, options_of, forms_of, host_rule_of, work_named}
use Rattle.pl_cli.specs.Word.{is_separator}
use Rattle.pl_cli.specs.Place.{word_at, given_value, is_given, positional_before, first_positional, may_stand}
use Rattle.pl_cli.specs.declared.table.CommandName.{CommandName}
use Rattle.pl_cli.specs.declared.table.CommandName.TheVariants.{State, Up}
use Rattle.pl_cli.specs.declared.table.StateWork.{StateWork}
use Rattle.pl_cli.specs.declared.table.OptionName.TheVariants.{File}
use Rattle.pl_cli.specs.declared.table.HostRule.{HostRule}
use Rattle.pl_cli.specs.declared.table.HostRule.TheVariants.{OneOrMore, Nothing}

-- the words before the first separator
abbrev pub engine_words : List (List ℕ) → List (List ℕ)
engine_words words = before_first is_separator words

-- the words after the first separator, which are the host's command
abbrev pub host_words : List (List ℕ) → List (List ℕ)
host_words words = after_first is_separator words

-- the command of the words: the first one spells it
abbrev pub command_of : List (List ℕ) → Option CommandName
command_of words = command_named (word_at (engine_words words) 0)

-- whether the command is `state`
abbrev pub is_state : Option CommandName → Bool
is_state None = false
is_state (Some Up) = false
is_state (Some State) = true

-- whether the first word spells `state`
abbrev pub spells_state : List (List ℕ) → Bool
spells_state words = is_state (command_of words)

-- whether a command takes these host words
abbrev pub host_words_fit : HostRule → List (List ℕ) → Bool
host_words_fit OneOrMore [] = false
host_words_fit OneOrMore (_ ∷ _) = true
host_words_fit Nothing [] = true
host_words_fit Nothing (_ ∷ _) = false

-- whether each option that the command requires is given
abbrev pub options_given : CommandName → List (List ℕ) → Bool
options_given command words = list_all (λ row. not row.required || is_given row.option words) (options_of command)

-- the work that the words before the separator give to `state`
abbrev pub work_given : List (List ℕ) → Option StateWork
work_given words = option_and_then work_named (first_positional State words)

-- whether nothing is missing: each required option, each positional word, and host words as the command
-- takes them
unfoldable pub is_complete : CommandName → List (List ℕ) → List (List ℕ) → Bool
is_complete command words host =
    options_given command words
    && nat_le (length (forms_of command)) (positional_before command words (length words))
    && host_words_fit (host_rule_of command) host

-- the least place of a word that may not stand there
unfoldable pub misplaced_word : CommandName → List (List ℕ) → Option ℕ
misplaced_word command words = find (λ place. not (may_stand command words place)) (range_with_len 0 (length words))

-- the place of the fault, for the words of a known command: the least place of a word that may not stand
-- there, and where each may but something is missing, the number of words before the separator
abbrev pub fault_place : CommandName → List (List ℕ) → List (List ℕ) → Option ℕ
fault_place command words host =
    option_or (misplaced_word command words) (if is_complete command words host then None else Some (length words))

-- the same for any words: where the first one is no command, or there is none, its place is the fault's
abbrev pub fault_place_under : Option CommandName → List (List ℕ) → List (List ℕ) → Option ℕ
fault_place_under None words host = Some 0
fault_place_under (Some command) words host = fault_place command words host

-- the place at which these words are refused, or none where they are a command
abbrev pub bad_place : List (List ℕ) → Option ℕ
bad_place words = fault_place_under (command_of words) (engine_words words) (host_words words)

-- the path of the checkpoint where the words give none
abbrev pub usual_file : List ℕ
usual_file = codes "checkpoint.json"

-- the path of the checkpoint that the words before the separator give
abbrev pub file_given : List (List ℕ) → List ℕ
file_given words = unwrap_or (given_value File words) usual_file

-- the path of the checkpoint, where the words are refused at a place or are a command
abbrev pub file_under : Option ℕ → List (List ℕ) → List ℕ
file_under None words = file_given (engine_words words)
file_under (Some _) words = usual_file

-- the path of the checkpoint that any words ask for: the usual one, unless they are a command that gives one
abbrev pub file_of : List (List ℕ) → List ℕ
file_of words = file_under (bad_place words) words
