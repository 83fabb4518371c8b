-- What a text is as a path: its segments, or the place at which it is refused, as they are computed. The law
-- `paths_are_written` of src/laws.rt says by the grammar, which stands in Written, what that is.
use Rattle.std.specs.Prelude.{◌≡◌, ℕ, Bool, List, Option, None, Some, Result, Ok, Err, is_ok}
use Rattle.pl_path.specs.declared.fault.PathFault.{PathFault}
use Rattle.pl_path.specs.declared.fault.PathFault.TheVariants.{BadPath, OutOfMemory}
use Rattle.pl_path.specs.declared.segment.Segment.{Segment}
use Rattle.pl_path.specs.Steps.{nothing_read, reads_on}

-- the segments of a path, or the place of the first byte that is refused; at the end of a text that is cut off
-- the place is its length
abbrev pub path_in : List ℕ → Result (List Segment) ℕ
path_in text = reads_on nothing_read 0 text

-- the segments of a text, if it is a path
unfoldable pub segments_of : List ℕ → Option (List Segment)
segments_of text = elim (path_in text) [ Ok segments ↦ Some segments | Err place ↦ None ]

-- the place of the first byte that is refused, if the text is no path
unfoldable pub bad_place : List ℕ → Option ℕ
bad_place text = elim (path_in text) [ Ok segments ↦ None | Err place ↦ Some place ]

-- whether a text is a path
unfoldable pub is_path : List ℕ → Bool
is_path text = is_ok (path_in text)

-- a refusal tells the place that was found; want of memory says nothing of the text
abbrev pub IsRefusedAt : Option ℕ → PathFault → Type 0
IsRefusedAt found (BadPath place) = found ≡ Some place
IsRefusedAt found OutOfMemory = Unit {0}
