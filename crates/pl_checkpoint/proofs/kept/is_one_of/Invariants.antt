use Rattle.std.proofs.Common.{◌≡◌, ℕ, List, Bor, drop, map}
use Rattle.pl_checkpoint_text.specs.Formed.{is_one_of}
use Rattle.pl_checkpoint.proofs.kept.is_one_of.Given as goal

-- whether the key is one of all is whether it is one of those that are left
abbrev pub invariant-loop-own : goal.invariant-loop-own
invariant-loop-own l =
    is_one_of (map (λ (own : Bor (List ℕ)). own.now) l.keys) l.key ≡ is_one_of (map (λ (own : Bor (List ℕ)). own.now) (drop l.own-index l.keys)) l.key
