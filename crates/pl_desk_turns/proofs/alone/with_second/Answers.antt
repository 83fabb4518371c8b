use Rattle.std.proofs.Common.{rules, arith, ◌≡◌, ℕ, List, ap, ◌∙◌}
use mathlib.Core.Option.{some}
use lib.ListN.{get_elem?}
use Rattle.pl_desk.specs.Seats.{number}
use Rattle.pl_desk_turns.specs.declared.notes.Note.{Note}
use Rattle.pl_desk_turns.specs.Counts.{own}
use Rattle.pl_desk_turns.proofs.alone.with_second.Goals as goal

pub returns-clause-gathered : goal.returns-clause-gathered
returns-clause-gathered c n pos low =
    let other = c.args.second in
    let one : number other ≡ 1 = search rules in
    let is : number other ≡ n = omega arith in
    (own other, (0, ap (λ (l : List (ℕ × List Note)). get_elem? l 0) c.join.ensures.gathered ∙ ap (λ (k : ℕ). some (k, own other)) is))
