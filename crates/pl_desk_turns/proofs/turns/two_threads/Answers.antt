use Rattle.std.proofs.Common.{rules, ◌≡◌, ℕ, ap, ◌∙◌, arith, length}
use mathlib.Core.Option.{some}
use lib.ListN.{get_elem?}
use Rattle.pl_desk.specs.Seats.{number, made}
use Rattle.pl_desk_turns.specs.declared.notes.Note.{Note}
use Rattle.std.specs.Prelude.{List}
use Rattle.pl_desk_turns.specs.Counts.{own}
use Rattle.pl_desk_turns.proofs.turns.two_threads.Goals as goal

pub close-notes-requires-clause-all : goal.close-notes-requires-clause-all
close-notes-requires-clause-all g c n pos low =
    let other = c.join-one.result.1.0 in
    let two : made c.join.new.seat ≡ 2 = search rules in
    let one : number other ≡ 1 = search rules in
    let is : number other ≡ n = omega arith in
    (own other, (0, ap (λ (l : List (ℕ × List Note)). get_elem? l 0) c.join.ensures.gathered ∙ ap (λ (k : ℕ). some (k, own other)) is))

pub returns-clause-second : goal.returns-clause-second
returns-clause-second g c =
    let other = c.join-one.result.1.0 in
    let one : number other ≡ 1 = search rules in
    let count : length (own other) ≡ c.join-one.result.1.1 = search rules in
    ap length (c.close-notes.ensures.others 1 (own other) (0, ap (λ (l : List (ℕ × List Note)). get_elem? l 0) c.join.ensures.gathered ∙ ap (λ (k : ℕ). some (k, own other)) one)) ∙ count
