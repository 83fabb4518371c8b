use Rattle.std.proofs.Common.{◌≡◌, ◌+◌, ◌*◌, List, ◌++◌, drop, map, string_bytes}
use Rattle.pl_value.specs.Keys.{keys_of}
use Rattle.serde_json.proofs.Views.{Entry}
use Rattle.serde_json.specs.View.{items_view, members_view}
use Rattle.pl_json.specs.Read.{items_read, members_read, read_in}
use Rattle.pl_json.proofs.Readings.{after}
use Rattle.pl_json.proofs.reading.+read.Given as goal

-- a level below comes before each function at this one
abbrev pub decreases-read : goal.decreases-read
decreases-read l = 4 * l.levels

abbrev pub decreases-read_list : goal.decreases-read_list
decreases-read_list l = 4 * l.levels + 1

abbrev pub decreases-read_members : goal.decreases-read_members
decreases-read_members l = 4 * l.levels + 1

abbrev pub decreases-read_plaintext : goal.decreases-read_plaintext
decreases-read_plaintext l = 4 * l.levels + 1

abbrev pub decreases-read_secret : goal.decreases-read_secret
decreases-read_secret l = 4 * l.levels + 2

abbrev pub decreases-read_object : goal.decreases-read_object
decreases-read_object l = 4 * l.levels + 3

-- what is read of the whole is what was read of the first ones, and then the rest
abbrev pub invariant-read_list-loop-place : goal.invariant-read_list-loop-place
invariant-read_list-loop-place l =
    items_read (read_in l.levels) 0 (items_view l.items)
    ≡ after l.values (items_read (read_in l.levels) l.place (items_view (drop l.place l.items)))

abbrev pub invariant-read_members-loop-key : goal.invariant-read_members-loop-key
invariant-read_members-loop-key l =
    (done : List Entry) × (l.members.entries ≡ done ++ l.key-iterator) × (keys_of l.fields ≡ map (λ (e : Entry). string_bytes e.0) done)
    × (members_read (read_in l.levels) (members_view l.members.entries) ≡ after l.fields (members_read (read_in l.levels) (members_view l.key-iterator)))
