-- The least place whose word may not stand there.
use Rattle.std.proofs.Common.{◌≡◌, ℕ, ◌+◌, ◌<◌, ◌≤◌, true, false, not, List, Some, None, length, refl, arith, find, sym, zero-add}
use Rattle.std.specs.List.{range_with_len}
use Rattle.pl_lemmas.proofs.Numbers.{range_find_none, range_find_some}
use Rattle.pl_cli.specs.Place.{may_stand}
use Rattle.pl_cli.specs.Reading.{misplaced_word}
use Rattle.pl_cli.specs.declared.table.CommandName.{CommandName}

-- where each word may stand, none is misplaced
pub misplaced_word-None : (command : CommandName) (words : List (List ℕ)) (count : ℕ) → length words ≤ count → ((k : ℕ) → k < count → may_stand command words k ≡ true) → None ≡ misplaced_word command words
unfolding misplaced_word
misplaced_word-None command words count all stands =
    sym (range_find_none (λ place. not (may_stand command words place)) 0 (length words)
    (λ k below. rw (zero-add, stands k (omega arith))))

-- where a word may not stand and each before it may, that one is misplaced
pub misplaced_word-Some : (command : CommandName) (words : List (List ℕ)) (place : ℕ) → place < length words → ((k : ℕ) → k < place → may_stand command words k ≡ true) → may_stand command words place ≡ false → Some place ≡ misplaced_word command words
unfolding misplaced_word
misplaced_word-Some command words place within stands bad =
    let found : find (λ place. not (may_stand command words place)) (range_with_len 0 (length words)) ≡ Some (0 + place)
    = range_find_some (λ place. not (may_stand command words place)) 0 (length words) place within
    (λ k below. rw (zero-add, stands k below)) (rw (zero-add, bad)) in
    sym (rw zero-add at found)
