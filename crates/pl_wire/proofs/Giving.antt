-- What was given in an exchange whose request went out whole.
use Rattle.std.proofs.Common.{◌≡◌, ℕ, List, Option, length, subst, sym, arith}
use Rattle.std.proofs.Math.Seq.{take-length}
use Rattle.pl_world.specs.Told.{Gave, GavePart, Piece}
use Rattle.pl_events.specs.declared.reply.Exchanged.{Exchanged}
use Rattle.pl_events.specs.declared.reply.Exchanged.TheVariants.{Reply, Lost}
use Rattle.pl_events.specs.declared.reply.Loss.TheVariants.{PipeFault, Ended, BadFrame, NoMemory}
use Rattle.pl_wire.specs.Exchange.{GivenFor}

-- all of a frame is a part of it
part_of_whole : (before now : Option (List Piece)) (frame : List ℕ) (cover : Option (List ℕ)) → Gave before now frame cover → GavePart before now frame cover
part_of_whole before now frame cover gave =
    let Given : List ℕ → Type 0 = λ bytes. Gave before now bytes cover in
    (length frame, omega arith, subst Given (sym (take-length frame)) gave)

by_answer : (told : Exchanged) (Whole Part : Type 0) → Whole → (Whole → Part) → GivenFor told Whole Part
by_answer (Reply reply) Whole Part whole part = whole
by_answer (Lost PipeFault) Whole Part whole part = part whole
by_answer (Lost Ended) Whole Part whole part = whole
by_answer (Lost (BadFrame bytes)) Whole Part whole part = whole
by_answer (Lost NoMemory) Whole Part whole part = part whole

pub given_whole : (told : Exchanged) (before between now : Option (List Piece)) (frame : List ℕ) (cover : Option (List ℕ)) → now ≡ between → Gave before between frame cover
    → GivenFor told (Gave before now frame cover) (GavePart before now frame cover)
given_whole told before between now frame cover stays gave =
    let Given : Option (List Piece) → Type 0 = λ told. Gave before told frame cover in
    by_answer told _ _ (subst Given (sym stays) gave) (part_of_whole before now frame cover)
