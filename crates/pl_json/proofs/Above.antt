-- Members of an object whose keys are all above one.
use Rattle.std.proofs.Common.{◌≡◌, ℕ, true, List, Ordering, Less, Equal, Greater}
use Rattle.std.specs.Cmp.Lexicographic.{slice_cmp}
use Rattle.std.specs.Ordering.{nat_cmp, match_ordering}
use Rattle.serde_json.specs.Data.{Data, Members, no_members, member, put}
use Rattle.pl_value.proofs.Rising.{below_trans}
use Rattle.pl_value.specs.Keys.{is_below}
use Rattle.pl_json.proofs.ReadBack.{AllAbove}

above_by : (o : Ordering) (low k l : List ℕ) (d e : Data) (ms : Members) → is_below low k ≡ true → is_below low l ≡ true → AllAbove low ms → AllAbove low (put k d ms)
    → AllAbove low (match_ordering o (member k d (member l e ms)) (member l d ms) (member l e (put k d ms)))
above_by Less low k l d e ms first second above later = (first, (second, above))
above_by Equal low k l d e ms first second above later = (second, above)
above_by Greater low k l d e ms first second above later = (second, later)

pub above-put : (low k : List ℕ) (d : Data) (ms : Members) → is_below low k ≡ true → AllAbove low ms → AllAbove low (put k d ms)
above-put low k d no_members below above = (below, tt)
above-put low k d (member l e ms) below above =
    above_by (slice_cmp nat_cmp k l) low k l d e ms below above.0 above.1 (above-put low k d ms below above.1)

pub above-below : (low k : List ℕ) (ms : Members) → is_below low k ≡ true → AllAbove k ms → AllAbove low ms
above-below low k no_members below above = tt
above-below low k (member l e ms) below above = (below_trans low k l below above.0, above-below low k ms below above.1)
