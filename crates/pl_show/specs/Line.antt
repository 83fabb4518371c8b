-- The lines that `state` prints.
use Rattle.std.specs.Prelude.{ℕ, List, [], ◌∷◌, ◌++◌, codes, decimal, length, flat_map}
use Rattle.pl_state.specs.declared.entry.Entry.{Entry}
use Rattle.pl_state.specs.declared.snapshot.Snapshot.{Snapshot}

-- the text with a newline behind it
abbrev pub line : List ℕ → List ℕ
line text = text ++ 10 ∷ []

-- the URNs of the entries in order, one a line
abbrev pub resource_lines : List Entry → List ℕ
resource_lines entries = flat_map (λ entry. line entry.urn) entries

-- the line that tells how many resources and how many pending operations a state has
abbrev pub sound_line : Snapshot → List ℕ
sound_line state =
    codes "sound: " ++ (decimal (length state.entries) ++ (codes " resources, " ++ (decimal (length state.pending) ++ line (codes " pending"))))
