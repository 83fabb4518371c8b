-- The words for the calls of a provider and for what differs.
use Rattle.std.specs.Prelude.{ℕ, List, codes, if◌then◌else◌, Option, Some, None}
use Rattle.std.specs.Str.{bytes_eq}
use Rattle.pl_events.specs.declared.operation.Call.{Call}
use Rattle.pl_events.specs.declared.operation.Call.TheVariants.{CheckConfig, Configure, Check, Diff, Create, Update, Delete, Read, Invoke}
use Rattle.pl_state.specs.declared.goal.Changes.{Changes}
use Rattle.pl_state.specs.declared.goal.Changes.TheVariants.{NoChange, SomeChange, NotKnown}

-- the word of a call
abbrev pub call_word : Call → List ℕ
call_word CheckConfig = codes "check_config"
call_word Configure = codes "configure"
call_word Check = codes "check"
call_word Diff = codes "diff"
call_word Create = codes "create"
call_word Update = codes "update"
call_word Delete = codes "delete"
call_word Read = codes "read"
call_word Invoke = codes "invoke"

-- the call that a word names
abbrev pub call_named : List ℕ → Option Call
call_named word =
    if bytes_eq word (codes "check_config") then Some CheckConfig
    else (if bytes_eq word (codes "configure") then Some Configure
    else (if bytes_eq word (codes "check") then Some Check
    else (if bytes_eq word (codes "diff") then Some Diff
    else (if bytes_eq word (codes "create") then Some Create
    else (if bytes_eq word (codes "update") then Some Update
    else (if bytes_eq word (codes "delete") then Some Delete
    else (if bytes_eq word (codes "read") then Some Read
    else (if bytes_eq word (codes "invoke") then Some Invoke
    else None))))))))

-- the word for what differs
abbrev pub changes_word : Changes → List ℕ
changes_word NoChange = codes "none"
changes_word SomeChange = codes "some"
changes_word NotKnown = codes "unknown"

-- what differs, by its word
abbrev pub changes_named : List ℕ → Option Changes
changes_named word =
    if bytes_eq word (codes "none") then Some NoChange
    else (if bytes_eq word (codes "some") then Some SomeChange
    else (if bytes_eq word (codes "unknown") then Some NotKnown
    else None))
