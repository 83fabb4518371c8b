-- The table of the command line: the commands with their positional words, options and host words.
use Rattle.std.specs.Prelude.{◌==◌, ℕ, List, [], ◌∷◌, Bool, true, false, not, ◌&&◌, Option, Some, codes, find, is_some}
use Rattle.std.specs.List.{list_any}
use Rattle.std.specs.Str.{bytes_eq}
use Rattle.pl_cli.specs.declared.table.CommandName.{CommandName}
use Rattle.pl_cli.specs.declared.table.CommandName.TheVariants.{Up, State}
use Rattle.pl_cli.specs.declared.table.OptionName.{OptionName}
use Rattle.pl_cli.specs.declared.table.OptionName.TheVariants.{Stack, Project, File}
use Rattle.pl_cli.specs.declared.table.StateWork.{StateWork}
use Rattle.pl_cli.specs.declared.table.StateWork.TheVariants as works
use Rattle.pl_cli.specs.declared.table.Form.{Form}
use Rattle.pl_cli.specs.declared.table.Form.TheVariants.{NoColon, Word, Work}
use Rattle.pl_cli.specs.declared.table.HostRule.{HostRule}
use Rattle.pl_cli.specs.declared.table.HostRule.TheVariants.{OneOrMore, Nothing}
use Rattle.pl_cli.specs.declared.table.OptionRow.{OptionRow}

-- all commands
abbrev pub commands : List CommandName
commands = Up ∷ State ∷ []

-- how a command is spelled
abbrev pub command_text : CommandName → List ℕ
command_text Up = codes "up"
command_text State = codes "state"

-- the command of this spelling
abbrev pub command_named : List ℕ → Option CommandName
command_named word = find (λ command. bytes_eq (command_text command) word) commands

-- how a work of `state` is spelled
abbrev pub work_text : StateWork → List ℕ
work_text works.List = codes "list"
work_text works.Check = codes "check"

-- the work of `state` of this spelling
abbrev pub work_named : List ℕ → Option StateWork
work_named word = find (λ work. bytes_eq (work_text work) word) (works.List ∷ works.Check ∷ [])

-- how an option is spelled
abbrev pub option_text : OptionName → List ℕ
option_text Stack = codes "--stack"
option_text Project = codes "--project"
option_text File = codes "--file"

-- an option that has to be given, once, with a value of this form
abbrev pub required_once : OptionName → Form → OptionRow
required_once option form = record { option = option; required = true; repeatable = false; value = Some form }

-- an option that may be given, once, with a value of this form
abbrev pub optional_once : OptionName → Form → OptionRow
optional_once option form = record { option = option; required = false; repeatable = false; value = Some form }

-- the options that a command knows
abbrev pub options_of : CommandName → List OptionRow
options_of Up = required_once Stack NoColon ∷ required_once Project NoColon ∷ optional_once File Word ∷ []
options_of State = optional_once File Word ∷ []

-- the row of the option of this spelling, if the command knows it
abbrev pub option_named : CommandName → List ℕ → Option OptionRow
option_named command name = find (λ row. bytes_eq (option_text row.option) name) (options_of command)

-- the forms of a command's positional words, in order
abbrev pub forms_of : CommandName → List Form
forms_of Up = []
forms_of State = Work ∷ []

-- which host words a command takes
abbrev pub host_rule_of : CommandName → HostRule
host_rule_of Up = OneOrMore
host_rule_of State = Nothing

-- whether nothing is in the word
abbrev pub is_empty_word : List ℕ → Bool
is_empty_word [] = true
is_empty_word (_ ∷ _) = false

-- whether a value or a positional word has the form; an empty word has none
abbrev pub fits : Form → List ℕ → Bool
fits NoColon word = not (is_empty_word word) && not (list_any (λ byte. byte == 58) word)
fits Word word = not (is_empty_word word)
fits Work word = is_some (work_named word)
