use Rattle.std.proofs.Common.{rules, arith, ◌≡◌, ◌≢◌, ℕ, ◌<◌, ◌≤◌, length, ap, sym, subst}
use mathlib.Core.Logic.{dite}
use native.Mathlib.Decide.{ℕ_discrete}
use Rattle.pl_desk.specs.Rule.{lines_of}
use Rattle.pl_desk_speed.specs.Told.{told}
use Rattle.pl_desk_speed.proofs.Shares.{length_of_shares}
use Rattle.pl_desk_speed.proofs.locked.lock_total.Goals as goal

pub close-requires-clause-all : goal.close-requires-clause-all
close-requires-clause-all g c n pos low =
    let back = c.crew_from-first.ensures.gathered n (omega arith) (search rules) in
    (back.0, back.1)

pub returns : goal.returns
returns g c =
    let xs = told c.close.result.story.value in
    let first = c.crew_from-first.result in
    let same : c.length.result ≡ length xs = search rules in
    let most : (n : ℕ) → n < c.args.threads → length (lines_of (λ l. l) n xs) ≤ c.args.turns =
    λ n low. dite (ℕ_discrete n 0)
    (λ (is : n ≡ 0). subst (λ (m : ℕ). length (lines_of (λ l. l) m xs) ≤ c.args.turns) (sym is) (omega (arith, ap length c.close.ensures.mine, c.crew_from-first.ensures.own)))
    (λ (not : n ≢ 0). let back = c.crew_from-first.ensures.gathered n (omega arith) low in omega (arith, ap length (c.close.ensures.others n back.0 back.1), back.2)) in
    record { total = omega (arith, same, length_of_shares c.args.threads c.args.turns xs (search rules) most) }
