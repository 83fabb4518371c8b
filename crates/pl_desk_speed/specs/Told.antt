-- The story of a tally as a list.
use Rattle.std.specs.Prelude.{ℕ, ◌^◌, List, [], ◌∷◌, ◌++◌, nat_lt, if◌then◌else◌}
use Rattle.pl_desk_speed.specs.declared.story.Story.{Story, fold-Story}
use Rattle.pl_desk_speed.specs.declared.story.Story.TheOpen.{Story-F}

abbrev pub told_step : Story-F (List ℕ) → List ℕ
told_step Story-F.Start = []
told_step (Story-F.After seat before) = before.value ++ seat ∷ []

-- the seats that added one, the first one first
abbrev pub told : Story → List ℕ
told = fold-Story (List ℕ) told_step

-- what the seat adds to a tally of the number n
abbrev pub one_more : ℕ → ℕ → List ℕ
one_more seat n = if nat_lt n (2 ^ 60) then seat ∷ [] else []
