use Rattle.std.proofs.Common.{◌≡◌, ℕ, List, IfOk, IfErr, Result, Ok, Err}
use Rattle.pl_state.specs.declared.snapshot.Snapshot.{Snapshot}
use Rattle.pl_checkpoint_text.specs.Formed.{IsFormed}
use Rattle.pl_checkpoint_text.specs.Laws.{AreValued}
use Rattle.pl_checkpoint_text.specs.Read.{reading_of, Tells, TellsFault}
use Rattle.pl_checkpoint_text.specs.ReadLaws.{IsReadable}
use Rattle.pl_checkpoint_text.specs.declared.fault.ReadFault.{ReadFault}
use Rattle.pl_checkpoint_text.proofs.ReadLawState.{read_is_readable}
use Rattle.pl_checkpoint.proofs.reader.read.Goals as goal

what_is_read : (bytes : List ℕ) (answer : Result Snapshot ReadFault) → Tells (reading_of bytes) answer → IfOk answer (λ state. reading_of bytes ≡ Ok state)
what_is_read bytes (Ok state) is = is
what_is_read bytes (Err fault) is = tt

why_not : (bytes : List ℕ) (answer : Result Snapshot ReadFault) → Tells (reading_of bytes) answer → IfErr answer (λ fault. TellsFault (reading_of bytes) fault)
why_not bytes (Ok state) is = tt
why_not bytes (Err fault) is = is

readable : (bytes : List ℕ) (answer : Result Snapshot ReadFault) → Tells (reading_of bytes) answer → IfOk answer (λ state. IsReadable state)
readable bytes (Ok state) is = read_is_readable bytes state is
readable bytes (Err fault) is = tt

formed : (answer : Result Snapshot ReadFault) → IfOk answer (λ state. IsReadable state) → IfOk answer (λ state. IsFormed state)
formed (Ok state) is = is.formed
formed (Err fault) is = tt

valued : (answer : Result Snapshot ReadFault) → IfOk answer (λ state. IsReadable state) → IfOk answer (λ state. AreValued state)
valued (Ok state) is = is.valued
valued (Err fault) is = tt

pub returns-clause-read : goal.returns-clause-read
returns-clause-read c = what_is_read c.args.bytes.now c.read_bytes.result c.read_bytes.ensures

pub returns-clause-refused : goal.returns-clause-refused
returns-clause-refused c = why_not c.args.bytes.now c.read_bytes.result c.read_bytes.ensures

pub returns-clause-formed : goal.returns-clause-formed
returns-clause-formed c = formed c.read_bytes.result (readable c.args.bytes.now c.read_bytes.result c.read_bytes.ensures)

pub returns-clause-valued : goal.returns-clause-valued
returns-clause-valued c = valued c.read_bytes.result (readable c.args.bytes.now c.read_bytes.result c.read_bytes.ensures)
