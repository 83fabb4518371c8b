use Rattle.std.proofs.Common.{rules, arith, ◌≡◌, ◌≢◌, ℕ, suc, ◌+◌, ◌<◌, ◌≤◌, List, length, ap, ◌∙◌}
use mathlib.Core.Logic.{dite}
use mathlib.Core.Option.{some}
use native.Mathlib.Decide.{ℕ_discrete}
use lib.ListN.{get_elem?}
use Rattle.pl_desk.specs.Seats.{number}
use Rattle.pl_desk.specs.Posed.{Has}
use Rattle.pl_desk_speed.specs.Turns.{own, taken_in}
use Rattle.pl_desk_speed.proofs.locked.+making.Goals as goal

pub returns-clause-gathered : goal.returns-clause-gathered
returns-clause-gathered g t c n low high =
    let other = c.join-other.result.0 in
    let first = c.join-other.result.1 in
    let now = c.join.ensures.gathered in
    let one : number other ≡ c.args.next = search rules in
    let few : length (own other) ≤ c.args.turns = search rules in
    let others : (n : ℕ) → c.args.next + 1 ≤ n → n < c.args.size → (ls : List ℕ) × Has (taken_in first) n ls × (length ls ≤ c.args.turns) = search rules in
    dite (ℕ_discrete c.args.next n)
    (λ is. (own other, (0, ap (λ (l : List (ℕ × List ℕ)). get_elem? l 0) now ∙ ap (λ (k : ℕ). some (k, own other)) (one ∙ is)), few))
    (λ (not : c.args.next ≢ n). let more = others n (omega arith) high in (more.0, (suc more.1.0, ap (λ (l : List (ℕ × List ℕ)). get_elem? l (suc more.1.0)) now ∙ more.1.1), more.2))
