-- The words for the two locks.
use Rattle.std.specs.Prelude.{ℕ, List, codes}
use Rattle.pl_desk_speed.specs.declared.kind.Kind.{Kind}
use Rattle.pl_desk_speed.specs.declared.kind.Kind.TheVariants.{Lock, Mutex}

abbrev pub kind_name : Kind → List ℕ
kind_name Lock = codes "lock"
kind_name Mutex = codes "mutex"
