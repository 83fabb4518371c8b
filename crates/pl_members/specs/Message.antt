-- Why a message was not written.
use Rattle.std.specs.Prelude.{ℕ, ⊤}
use Rattle.pl_members.specs.declared.message.MsgOut.{MsgOut}
use Rattle.pl_members.specs.declared.message.MsgOut.TheVariants.{TooLong, OutOfMemory}

-- the fact, of the length, where a text was refused for it
abbrev pub IfTooLong : MsgOut → (ℕ → Type 0) → Type 0
IfTooLong (TooLong len) P = P len
IfTooLong OutOfMemory P = ⊤
