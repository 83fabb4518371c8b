-- Decisions that are taken back.
use Rattle.std.proofs.Common.{◌≡◌, ◌<◌, ◌≤◌, ◌+◌, ◌-◌, ◌∙◌, ℕ, suc, List, [], ◌∷◌, ◌++◌, drop, length, ap, arith}
use Rattle.std.proofs.lemmas.List.{length-append}
use Rattle.std.proofs.lemmas.List.Prefix.{front_rest}
use Rattle.pl_model.specs.declared.decided.Decided.{Decided}
use Rattle.pl_turns.specs.Next.{Extends}

-- one less is left to drop
pub one_less : {X : Type 0} (xs : List X) (count : ℕ) → count < length xs
    → drop (length (drop 1 xs) - count) (drop 1 xs) ≡ drop (length xs - count) xs
one_less [] count less = absurd (omega arith)
one_less {X = X} (x ∷ xs) count less =
    let low : count ≤ length xs = omega arith in
    let more : suc (length xs - count) ≡ suc (length xs) - count = omega arith in
    ap (λ (n : ℕ). drop n (x ∷ xs)) more

-- the older decisions are left
pub older_left : (older newer : List Decided) → Extends older newer → drop (length newer - length older) newer ≡ older
older_left older newer more =
    let long : length newer ≡ length more.0 + length older = ap length more.1 ∙ length-append more.0 older in
    let made : length newer - length older ≡ length more.0 = omega arith in
    ap (λ (n : ℕ). drop n newer) made ∙ front_rest newer more.0 older more.1
