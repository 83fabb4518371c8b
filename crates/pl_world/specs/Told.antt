use Rattle.std.specs.Prelude.{◌≡◌, ◌⊎◌, ℕ, ◌-◌, ◌≤◌, List, [], ◌∷◌, ◌++◌, length, take, slice_get, All, Option, option_map, option_and_then, option_copied, IfSome}
use denote.Ref.{Bor}

-- what is told grew by exactly this at its end; what is not told stays untold
abbrev pub Grew : {A : Type 0} → Option (List A) → Option (List A) → List A → Type 0
Grew before now more = now ≡ option_map (λ told. told ++ more) before

-- the same of what may cease to be told: where it is told now, it grew by exactly this
abbrev pub GrewIfTold : {A : Type 0} → Option (List A) → Option (List A) → List A → Type 0
GrewIfTold before now more = IfSome now (λ _. Grew before now more)

-- what is told lost exactly this at its front; what is not told stays untold
abbrev pub Shrank : {A : Type 0} → Option (List A) → Option (List A) → List A → Type 0
Shrank before now front = before ≡ option_map (λ told. front ++ told) now

-- what is told grew by some first bytes of these, maybe by none, maybe by all
abbrev pub GrewByPart : Option (List ℕ) → Option (List ℕ) → List ℕ → Type 0
GrewByPart before now bytes = (count : ℕ) × (count ≤ length bytes) × Grew before now (take count bytes)

-- where the story is told, this is its last content, none for a story that is empty
abbrev pub IsPresentContent : Option (List (List ℕ)) → Option (List ℕ) → Type 0
IsPresentContent story content = IfSome story (λ texts. content ≡ slice_get texts (length texts - 1))

-- the story is as before, or these bytes were added to it
abbrev pub IsKeptOrAdded : Option (List (List ℕ)) → Option (List (List ℕ)) → List ℕ → Type 0
IsKeptOrAdded before now bytes = (now ≡ before) ⊎ Grew before now (bytes ∷ [])

-- a piece that was given: its bytes, and the text of its cover if it had one
abbrev pub Piece : Type 0
Piece = List ℕ × Option (List ℕ)

-- the text of a cover if there is one and it is told; the function tells it
abbrev pub cover_text : {C : Type 0} → (C → Option (List ℕ)) → Option (Bor C) → Option (List ℕ)
cover_text text cover = option_and_then text (option_copied cover)

-- the bytes of pieces, one after another
abbrev pub bytes_of : List Piece → List ℕ
bytes_of [] = []
bytes_of (piece ∷ pieces) = piece.0 ++ bytes_of pieces

-- pieces that bear exactly these bytes, each with this cover
pub record Bears (pieces : List Piece) (bytes : List ℕ) (cover : Option (List ℕ)) : Type 0 where
  pub in_order : bytes_of pieces ≡ bytes
  pub covered : All (λ piece. piece.1 ≡ cover) pieces

-- exactly these bytes were given, cut into pieces anyhow, each piece with this cover
abbrev pub Gave : Option (List Piece) → Option (List Piece) → List ℕ → Option (List ℕ) → Type 0
Gave before now bytes cover = (pieces : List Piece) × Bears pieces bytes cover × Grew before now pieces

-- some first bytes of these were given, maybe none, maybe all
abbrev pub GavePart : Option (List Piece) → Option (List Piece) → List ℕ → Option (List ℕ) → Type 0
GavePart before now bytes cover = (count : ℕ) × (count ≤ length bytes) × Gave before now (take count bytes) cover

-- a pipe that was just handed out: nothing was given, nothing was taken, and its counts are 0
pub record IsFresh (given : Option (List Piece)) (taken : Option (List ℕ)) (faults ends : ℕ) : Type 0 where
  pub nothing_given : IfSome given (λ pieces. pieces ≡ [])
  pub nothing_taken : IfSome taken (λ bytes. bytes ≡ [])
  pub no_faults : faults ≡ 0
  pub no_ends : ends ≡ 0

-- exactly these bytes were taken: what was taken grew by them, what is left lost them
pub record Took (taken_before taken_now left_before left_now : Option (List ℕ)) (bytes : List ℕ) : Type 0 where
  pub taken_grew : Grew taken_before taken_now bytes
  pub left_shrank : Shrank left_before left_now bytes

-- what was kept grew by exactly the bytes that were taken
abbrev pub TookMore : Option (List ℕ) → Option (List ℕ) → Option (List ℕ) → Option (List ℕ) → List ℕ → List ℕ → Type 0
TookMore taken_before taken_now left_before left_now kept_before kept_now =
    (bytes : List ℕ) × (kept_now ≡ kept_before ++ bytes) × Took taken_before taken_now left_before left_now bytes
