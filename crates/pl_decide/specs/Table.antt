-- What is decided of one goal, by its claim: the first line that fits decides. What the rows that depend on
-- the claim say to it, and what the limits say, stands elsewhere.
use Rattle.std.specs.Prelude.{ℕ, Bool, true, false, not, ◌&&◌, ◌||◌, if◌then◌else◌, Option, None, Some, is_some, List, []}
use Rattle.std.specs.Bool.{beq}
use Rattle.pl_value.specs.Same.{fields_same}
use Rattle.pl_value.specs.declared.value.Value.{Value}
use Rattle.pl_lemmas.specs.Words.{has_none, some_passes}
use Rattle.pl_state.specs.Kinds.{is_importing_goal, is_provided, is_reading_goal, kin_of}
use Rattle.pl_state.specs.References.{is_id}
use Rattle.pl_state.specs.declared.entry.Entry.{Entry}
use Rattle.pl_state.specs.declared.goal.Changes.{Changes}
use Rattle.pl_state.specs.declared.goal.Changes.TheVariants.{NoChange, SomeChange, NotKnown}
use Rattle.pl_state.specs.declared.goal.Diffed.{Diffed}
use Rattle.pl_state.specs.declared.goal.Goal.{Goal}
use Rattle.pl_decide.specs.declared.decision.Decision.{Decision}
use Rattle.pl_decide.specs.declared.decision.Decision.TheVariants.{Keep, Create, Update, Replace, Import, ReadOnly, Refused}
use Rattle.pl_decide.specs.declared.decision.ProviderChange.{ProviderChange}
use Rattle.pl_decide.specs.declared.decision.ProviderChange.TheVariants.{Same, BothDefault, Other}
use Rattle.pl_decide.specs.declared.problem.Problem.TheVariants.{CustomChanged, ImportConflict, Protected, ReadOverManaged}

-- whether there is a claim and one of the two is custom alone
abbrev pub custom_differs : Option Entry → Goal → Bool
custom_differs claim goal = some_passes (λ row. not (beq row.custom goal.custom)) claim

-- whether a goal imports another thing than that of its kin
abbrev pub is_conflict : Entry → Goal → Bool
is_conflict kin goal =
    is_importing_goal goal
    && not (some_passes (λ id. is_id kin.id id || is_id kin.import_id id) goal.import_id)

-- whether the provider is another one, and one of the two is no default provider
abbrev pub is_other_provider : ProviderChange → Bool
is_other_provider Same = false
is_other_provider BothDefault = false
is_other_provider Other = true

-- whether a goal's old thing is to be deleted before the new one is made: as the goal says, and where it
-- says nothing as the diff does
abbrev pub deletes_first : Option Bool → Bool → Bool
deletes_first None by_diff = by_diff
deletes_first (Some by_goal) by_diff = by_goal

-- a replacement, unless the kin is protected
abbrev pub replacement : Entry → Goal → Bool → Decision
replacement kin goal by_diff =
    if kin.protect then Refused (Protected goal.urn)
    else Replace (not (deletes_first goal.delete_before_replace by_diff))

-- without a change the kin is kept, or made whole where its creation came to errors
abbrev pub kept : Entry → Decision
kept kin = if has_none kin.init_errors then Keep else Update

-- what a diff decides, where the inputs are or are not the same
abbrev pub by_changes : Entry → Goal → Bool → Changes → Diffed → Decision
by_changes kin goal same NoChange diff = kept kin
by_changes kin goal same NotKnown diff = if same then kept kin else Update
by_changes kin goal same SomeChange diff =
    if has_none diff.replaces then Update else replacement kin goal diff.delete_before_replace

-- a diff, or one that says nothing where none was asked
abbrev pub said : Option Diffed → Diffed
said None = record { changes = NotKnown; replaces = []; delete_before_replace = false }
said (Some diff) = diff

-- the same, by what the diff says of changes
abbrev pub by_diff : Entry → Goal → Bool → Diffed → Decision
by_diff kin goal same diff = by_changes kin goal same diff.changes diff

-- what is decided of a goal that has a provider, over its kin; where the provider is another one no diff is
-- asked
abbrev pub decide_provided : Entry → Goal → ProviderChange → Bool → Option Diffed → Decision
decide_provided kin goal change same diff =
    if is_other_provider change then replacement kin goal false
    else by_diff kin goal same (said diff)

-- what is decided of a component or a provider, over its kin
abbrev pub decide_unprovided : Bool → Decision
decide_unprovided same = if same then Keep else Update

-- what is decided over the kin
abbrev pub decide_over : Entry → Goal → ProviderChange → Bool → Option Diffed → Decision
decide_over kin goal change same diff =
    if is_conflict kin goal then Refused (ImportConflict goal.urn)
    else (if is_provided goal then decide_provided kin goal change same diff
    else decide_unprovided same)

-- what is decided of a goal that does not read
abbrev pub decide_kin : Option Entry → Goal → ProviderChange → List (List ℕ × Value) → Option Diffed → Decision
decide_kin None goal change checked diff = if is_importing_goal goal then Import else Create
decide_kin (Some kin) goal change checked diff = decide_over kin goal change (fields_same kin.inputs checked) diff

-- what is decided of a goal that reads
abbrev pub decide_reading : Option Entry → Goal → Decision
decide_reading claim goal = if is_some (kin_of claim) then Refused (ReadOverManaged goal.urn) else ReadOnly

-- what is decided of a goal, by its claim, by how its provider stands to the claim's, by its checked inputs
-- and by the diff, if one was asked
abbrev pub decide : Option Entry → Goal → ProviderChange → List (List ℕ × Value) → Option Diffed → Decision
decide claim goal change checked diff =
    if is_reading_goal goal then decide_reading claim goal
    else (if custom_differs claim goal then Refused (CustomChanged goal.urn)
    else decide_kin (kin_of claim) goal change checked diff)

-- whether a diff is to be asked over the kin
abbrev pub kin_needs_diff : Option Entry → Goal → ProviderChange → Bool
kin_needs_diff None goal change = false
kin_needs_diff (Some kin) goal change =
    is_provided goal && not (is_conflict kin goal) && not (is_other_provider change)

-- whether no line fits before those on diffs, so that a diff is to be asked
abbrev pub needs_diff : Option Entry → Goal → ProviderChange → Bool
needs_diff claim goal change =
    not (is_reading_goal goal) && not (custom_differs claim goal) && kin_needs_diff (kin_of claim) goal change
