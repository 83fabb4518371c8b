-- What is said of a command that was read, and of a refusal.
use Rattle.std.specs.Prelude.{◌≡◌, ℕ, List, Option, Some}
use Rattle.pl_cli.specs.declared.table.CommandName.{CommandName}
use Rattle.pl_cli.specs.declared.table.StateWork.{StateWork}
use Rattle.pl_cli.specs.declared.command.RunWords.{RunWords}
use Rattle.pl_cli.specs.declared.command.Command.{Command}
use Rattle.pl_cli.specs.declared.command.Command.TheVariants.{Up, State}
use Rattle.pl_cli.specs.declared.command.WordFault.{WordFault}
use Rattle.pl_cli.specs.declared.command.WordFault.TheVariants.{BadWords, OutOfMemory}
use Rattle.pl_cli.specs.declared.table.CommandName.TheVariants as names

-- the row of the table that a command belongs to
abbrev pub name_of : Command → CommandName
name_of (Up _) = names.Up
name_of (State _ _) = names.State

-- what holds of the run where the command is `up`
abbrev pub IfUp : (RunWords → Type 0) → Command → Type 0
IfUp P (Up run) = P run
IfUp P (State _ _) = Unit {0}

-- what holds of the work where the command is `state`
abbrev pub IfState : (StateWork → Type 0) → Command → Type 0
IfState P (Up _) = Unit {0}
IfState P (State _ work) = P work

-- the path of the checkpoint that a command is about
abbrev pub file_in : Command → List ℕ
file_in (Up run) = run.file
file_in (State file _) = file

-- a refusal of the words stands at the place that was found; want of memory says nothing of them
abbrev pub IsRefusedAt : Option ℕ → WordFault → Type 0
IsRefusedAt found (BadWords place) = found ≡ Some place
IsRefusedAt found OutOfMemory = Unit {0}
