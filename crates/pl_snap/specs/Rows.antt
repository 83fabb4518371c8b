-- Rows and pending operations by their numbers, and what changes them.
use Rattle.std.specs.Prelude.{ℕ, ◌+◌, ◌==◌, Bool, true, false, ◌&&◌, if◌then◌else◌, Option, None, Some, option_and_then, List, [], ◌∷◌, bytes_eq, find, length, map, nat_le}
use Rattle.std.specs.List.{enumerate_from, range_with_len}
use Rattle.pl_state.specs.declared.entry.Entry.{Entry}
use Rattle.pl_state.specs.declared.pending.Pending.{Pending}
use Rattle.pl_state.specs.declared.pending.PendingKind.{PendingKind}
use Rattle.pl_state.specs.declared.pending.PendingKind.TheVariants.{Creating, Updating, Deleting, Reading, Importing}
use Rattle.pl_snap.specs.declared.tag.Tag.{Tag}
use Rattle.pl_snap.specs.Lists.{changed_first, without_first, zip_by}
use Rattle.pl_snap.specs.Model.{Row, Waiting}
use Rattle.pl_turning.specs.Turning.{Turning, mentions, turned_entry}

-- ---- rows

abbrev pub is_number : ℕ → Option ℕ → Bool
is_number number None = false
is_number number (Some own) = own == number

-- whether a row has this number
abbrev pub is_row : ℕ → Row → Bool
is_row number row = is_number number row.number

-- the rows of a state, each with its place as its number and its stamp
abbrev pub first_rows : List Entry → List Row
first_rows entries = map (λ one. record { number = Some one.0; stamp = one.0; entry = one.1 }) (enumerate_from 0 entries)

-- entries that are set whole, stamped one after another
abbrev pub set_rows : ℕ → List Entry → List Row
set_rows first entries =
    map (λ one. record { number = None; stamp = one.0; entry = one.1 }) (enumerate_from first entries)

-- an entry that is marked to be deleted
abbrev pub doomed : Entry → Entry
doomed entry = record entry { doomed = true }

-- an entry that is marked as one whose thing was deleted to be made anew
abbrev pub replaced : Entry → Entry
replaced entry = record entry { pending_replacement = true }

abbrev pub doomed_row : ℕ → Row → Row
doomed_row stamp row = record row { stamp = stamp; entry = doomed row.entry }

abbrev pub replaced_row : ℕ → Row → Row
replaced_row stamp row = record row { stamp = stamp; entry = replaced row.entry }

-- the rows without a claim, or with it marked to be deleted
abbrev pub claim_taken : Option ℕ → Bool → ℕ → List Row → List Row
claim_taken None marked stamp rows = rows
claim_taken (Some number) true stamp rows = changed_first (is_row number) (doomed_row stamp) rows
claim_taken (Some number) false stamp rows = without_first (is_row number) rows

-- a row with a URN turned; it gets a new stamp where it has that URN
abbrev pub turned_row : Turning → ℕ → Row → Row
turned_row turning stamp row = record row {
  stamp = if mentions turning.old row.entry then stamp else row.stamp;
  entry = turned_entry row.entry turning;
}

-- rows with a URN turned, with a new stamp for each place
abbrev pub turned_rows : Turning → ℕ → List Row → List Row
turned_rows turning first rows = map (λ one. turned_row turning one.0 one.1) (enumerate_from first rows)

-- the URN that becomes that of an entry recorded on a row, where the two differ
abbrev pub turning_of : List ℕ → Row → Option Turning
turning_of urn row = if bytes_eq row.entry.urn urn then None else Some (record { old = row.entry.urn; new = urn })

-- the row that is left of a claim
abbrev pub claimed_row : Option ℕ → List Row → Option Row
claimed_row claim rows = option_and_then (λ number. find (is_row number) rows) claim

abbrev pub turned_if : Option Turning → ℕ → List Row → List Row
turned_if None first rows = rows
turned_if (Some turning) first rows = turned_rows turning first rows

-- the rows once an entry of this URN is recorded on a claim: where the claim has another URN, that one is turned in
-- all of them
abbrev pub rows_after : List ℕ → Option ℕ → ℕ → List Row → List Row
rows_after urn claim first rows = turned_if (option_and_then (turning_of urn) (claimed_row claim rows)) first rows

-- ---- what is kept of a row beside its entry

-- whether a tag has this number
abbrev pub has_number : ℕ → Tag → Bool
has_number number tag = tag.number == number

-- whether the numbers of tags rise, from a least one on
abbrev pub rise_from : ℕ → List Tag → Bool
rise_from least [] = true
rise_from least (tag ∷ tags) = nat_le least tag.number && rise_from (tag.number + 1) tags

-- so many tags, numbered from 0 and stamped from a stamp on
abbrev pub first_tags : ℕ → ℕ → List Tag
first_tags first count = map (λ number. record { number = number; stamp = first + number }) (range_with_len 0 count)

abbrev pub tagged_row : Tag → Entry → Row
tagged_row tag entry = record { number = Some tag.number; stamp = tag.stamp; entry = entry }

-- entries with their tags
abbrev pub tagged_rows : List Tag → List Entry → List Row
tagged_rows tags entries = zip_by tagged_row tags entries

-- a tag with another stamp
abbrev pub stamped : ℕ → Tag → Tag
stamped stamp tag = record tag { stamp = stamp }

-- the tag of a row in which a URN is turned: a new stamp where the row has that URN
abbrev pub turned_tag : List ℕ → Entry → ℕ → Tag → Tag
turned_tag urn entry stamp tag = record tag { stamp = if mentions urn entry then stamp else tag.stamp }

-- the tags of rows in which a URN is turned, with a new stamp for each place
abbrev pub turned_tags : List ℕ → ℕ → List Tag → List Entry → List Tag
turned_tags urn first tags entries = zip_by (λ tag one. turned_tag urn one.1 one.0 tag) tags (enumerate_from first entries)

-- entries with their tags, or stamped from a stamp on where they were set whole
abbrev pub rows_in : Option ℕ → List Tag → List Entry → List Row
rows_in None tags entries = tagged_rows tags entries
rows_in (Some first) tags entries = set_rows first entries

-- whether each entry has a tag, or none has one where they were set whole
abbrev pub fits : Option ℕ → List Tag → List Entry → Bool
fits None tags entries = length tags == length entries
fits (Some first) tags entries = length tags == 0

-- the stamp after those of entries that were set whole
abbrev pub set_end : Option ℕ → ℕ → ℕ
set_end None count = 0
set_end (Some first) count = first + count

-- ---- pending operations

-- whether a pending operation has this number
abbrev pub is_waiting : ℕ → Waiting → Bool
is_waiting number one = one.number == number

-- the pending operations of a state, each with its place as its number, stamped from a stamp on
abbrev pub first_waiting : ℕ → List Pending → List Waiting
first_waiting first operations =
    map (λ one. record { number = one.0; stamp = first + one.0; pending = one.1 }) (enumerate_from 0 operations)

abbrev pub tagged_pending : Tag → Pending → Waiting
tagged_pending tag pending = record { number = tag.number; stamp = tag.stamp; pending = pending }

-- whether what is pending may become a resource of its own
abbrev pub is_further : PendingKind → Bool
is_further Creating = true
is_further Updating = false
is_further Deleting = false
is_further Reading = true
is_further Importing = true

-- whether a pending operation counts beside the entries: all but updates and deletes do
abbrev pub is_counted : Pending → Bool
is_counted pending = is_further pending.kind
