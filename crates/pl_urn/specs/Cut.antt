-- A text cut at its first `::`.
use Rattle.std.specs.Prelude.{◌≡◌, ℕ, Bool, false, ◌&&◌, ◌||◌, ◌==◌, if◌then◌else◌, List, [], ◌∷◌, ◌++◌}

-- `:`
abbrev pub colon : ℕ
colon = 58

-- `::`
abbrev pub cut : List ℕ
cut = colon ∷ colon ∷ []

-- whether a text begins with `::`
unfoldable pub begins_with_cut : List ℕ → Bool
begins_with_cut [] = false
begins_with_cut (a ∷ []) = false
begins_with_cut (a ∷ b ∷ rest) = (a == colon) && (b == colon)

-- whether `::` stands anywhere in a text
unfoldable pub has_cut : List ℕ → Bool
has_cut [] = false
has_cut (b ∷ bs) = begins_with_cut (b ∷ bs) || has_cut bs

-- what stands before the first `::`, or all where there is none
unfoldable pub before_cut : List ℕ → List ℕ
before_cut [] = []
before_cut (b ∷ bs) = if begins_with_cut (b ∷ bs) then [] else b ∷ before_cut bs

-- a text without its first byte
abbrev pub rest_of : List ℕ → List ℕ
rest_of [] = []
rest_of (b ∷ bs) = bs

-- what stands after the first `::`, or nothing where there is none
unfoldable pub after_cut : List ℕ → List ℕ
after_cut [] = []
after_cut (b ∷ bs) = if begins_with_cut (b ∷ bs) then rest_of bs else after_cut bs

-- followed by `::`, a text is cut nowhere but at its end: it holds no `::` and does not end in `:`
abbrev pub IsWhole : List ℕ → Type 0
IsWhole text = has_cut (text ++ colon ∷ []) ≡ false
