-- The words by which a host says what its message is.
use Rattle.std.specs.Prelude.{ℕ, List, codes, if◌then◌else◌, Option, Some, None}
use Rattle.std.specs.Str.{bytes_eq}
use Rattle.pl_host_word.specs.declared.calls.HostCall.{HostCall}
use Rattle.pl_host_word.specs.declared.calls.HostCall.TheVariants.{Register, Read, Outputs, Invoke, Done, Failed}

-- the word of a call
abbrev pub call_word : HostCall → List ℕ
call_word Register = codes "register"
call_word Read = codes "read"
call_word Outputs = codes "outputs"
call_word Invoke = codes "invoke"
call_word Done = codes "done"
call_word Failed = codes "failed"

-- the call that a word names
abbrev pub call_named : List ℕ → Option HostCall
call_named word =
    if bytes_eq word (codes "register") then Some Register
    else (if bytes_eq word (codes "read") then Some Read
    else (if bytes_eq word (codes "outputs") then Some Outputs
    else (if bytes_eq word (codes "invoke") then Some Invoke
    else (if bytes_eq word (codes "done") then Some Done
    else (if bytes_eq word (codes "failed") then Some Failed
    else None)))))
