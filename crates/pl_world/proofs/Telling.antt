use Rattle.std.proofs.Common.{◌≡◌, ℕ, ◌+◌, ◌-◌, ◌<◌, ◌≤◌, get_or, List, [], ◌∷◌, ◌++◌, length, take, drop, refl, sym, ◌∙◌, ap, subst, append_assoc, arith, length-append, length-drop}
use Rattle.std.proofs.lemmas.List.{append-nil, length-take-le}
use Rattle.std.proofs.lemmas.List.Elements.{All-append, All-nil, All-cons}
use Rattle.std.proofs.Math.Seq.{take-append-add, take-append_seam, take-length, take-add}
use Rattle.std.proofs.lemmas.List.{take-append-le, take-append-drop, drop-drop, take_more}
use Rattle.std.specs.Prelude.{Option, Some, None, option_map, Result, Ok, Err, OnErr}
use Rattle.pl_world.specs.declared.trouble.Trouble.{Trouble}
use Rattle.pl_world.specs.declared.trouble.Trouble.TheVariants.{Failed, OutOfMemory}
use Rattle.pl_world.specs.Causes.{OnFailed, OnNoMemory}
use Rattle.pl_world.specs.Told.{Grew, Shrank, Piece, bytes_of, Gave, GavePart, Took}

-- what stays as it is grew by nothing
pub Grew-nothing : {A : Type 0} (before now : Option (List A)) → now ≡ before → Grew before now []
Grew-nothing None now same = same
Grew-nothing (Some told) now same = same ∙ ap Some (sym (append-nil told))

-- one growth after another
pub Grew-append : {A : Type 0} (first second third : Option (List A)) (xs ys : List A) → Grew first second xs → Grew second third ys → Grew first third (xs ++ ys)
Grew-append None second third xs ys before after = after ∙ ap (option_map (λ told. told ++ ys)) before
Grew-append (Some told) second third xs ys before after =
    after ∙ ap (option_map (λ told. told ++ ys)) before ∙ ap Some (append_assoc told xs ys)

-- one loss after another
pub Shrank-append : {A : Type 0} (first second third : Option (List A)) (xs ys : List A) → Shrank first second xs → Shrank second third ys → Shrank first third (xs ++ ys)
Shrank-append first second None xs ys before after = before ∙ ap (option_map (λ told. xs ++ told)) after
Shrank-append first second (Some told) xs ys before after =
    before ∙ ap (option_map (λ told. xs ++ told)) after ∙ ap Some (sym (append_assoc xs ys told))

-- the bytes of pieces after pieces
pub bytes_of-append : (xs ys : List Piece) → bytes_of (xs ++ ys) ≡ bytes_of xs ++ bytes_of ys
bytes_of-append [] ys = refl
bytes_of-append (x ∷ xs) ys = ap (λ bytes. x.0 ++ bytes) (bytes_of-append xs ys) ∙ sym (append_assoc x.0 (bytes_of xs) (bytes_of ys))

-- one piece was given
pub Gave-piece : (before now : Option (List Piece)) (bytes : List ℕ) (cover : Option (List ℕ)) → Grew before now ((bytes, cover) ∷ []) → Gave before now bytes cover
Gave-piece before now bytes cover grew =
    ((bytes, cover) ∷ [], record { in_order = append-nil bytes; covered = All-cons (λ piece. piece.1 ≡ cover) (bytes, cover) [] refl (All-nil (λ piece. piece.1 ≡ cover)) }, grew)

-- one gift after another
pub Gave-append : (first second third : Option (List Piece)) (xs ys : List ℕ) (cover : Option (List ℕ)) → Gave first second xs cover → Gave second third ys cover → Gave first third (xs ++ ys) cover
Gave-append first second third xs ys cover before after = (
  before.0 ++ after.0,
  record {
    in_order = bytes_of-append before.0 after.0 ∙ ap (λ bytes. bytes ++ bytes_of after.0) before.1.in_order ∙ ap (λ bytes. xs ++ bytes) after.1.in_order;
    covered = All-append (λ piece. piece.1 ≡ cover) before.0 after.0 before.1.covered after.1.covered;
  },
  Grew-append first second third before.0 after.0 before.2 after.2,
)

-- after the first bytes went, the next ones are the first of the rest
pub Gave-next : (first second third : Option (List Piece)) (sent count : ℕ) (bytes : List ℕ) (cover : Option (List ℕ)) → Gave first second (take sent bytes) cover → Gave second third (take count (drop sent bytes)) cover → Gave first third (take (sent + count) bytes) cover
Gave-next first second third sent count bytes cover before after =
    subst (λ (given : List ℕ). Gave first third given cover) (sym (take-add sent count bytes))
    (Gave-append first second third (take sent bytes) (take count (drop sent bytes)) cover before after)

-- what was given whole is a part of it and more
pub GavePart-front : (before now : Option (List Piece)) (xs ys : List ℕ) (cover : Option (List ℕ)) → GavePart before now xs cover → GavePart before now (xs ++ ys) cover
GavePart-front before now xs ys cover part = (
  part.0,
  omega (arith, length-append xs ys, part.1),
  subst (λ (given : List ℕ). Gave before now given cover) (sym (take-append-le part.0 xs ys part.1)) part.2,
)

-- a part that follows what was given whole
pub GavePart-append : (first second third : Option (List Piece)) (xs ys : List ℕ) (cover : Option (List ℕ)) → Gave first second xs cover → GavePart second third ys cover → GavePart first third (xs ++ ys) cover
GavePart-append first second third xs ys cover before part = (
  length xs + part.0,
  omega (arith, length-append xs ys, part.1),
  subst (λ (given : List ℕ). Gave first third given cover) (sym (take-append-add xs ys part.0))
      (Gave-append first second third xs (take part.0 ys) cover before part.2),
)

-- a part of the rest, after the first bytes went
pub GavePart-next : (first second third : Option (List Piece)) (sent : ℕ) (bytes : List ℕ) (cover : Option (List ℕ)) → sent ≤ length bytes → Gave first second (take sent bytes) cover → GavePart second third (drop sent bytes) cover → GavePart first third bytes cover
GavePart-next first second third sent bytes cover within before part = (
  sent + part.0,
  omega (arith, length-drop sent bytes, part.1),
  Gave-next first second third sent part.0 bytes cover before part.2,
)

-- nothing more went
pub GavePart-stays : (first second third : Option (List Piece)) (sent : ℕ) (bytes : List ℕ) (cover : Option (List ℕ)) → sent ≤ length bytes → Gave first second (take sent bytes) cover → third ≡ second → GavePart first third bytes cover
GavePart-stays first second third sent bytes cover within before same =
    (sent, within, subst (λ (given : Option (List Piece)). Gave first given (take sent bytes) cover) (sym same) before)

-- one taking after another
pub Took-append : (first second third first_left second_left third_left : Option (List ℕ)) (xs ys : List ℕ) → Took first second first_left second_left xs → Took second third second_left third_left ys → Took first third first_left third_left (xs ++ ys)
Took-append first second third first_left second_left third_left xs ys before after = record {
  taken_grew = Grew-append first second third xs ys before.taken_grew after.taken_grew;
  left_shrank = Shrank-append first_left second_left third_left xs ys before.left_shrank after.left_shrank;
}

-- what a gift that went wrong leaves given, after the first bytes went
pub GavePart-after_error : (trouble : Trouble) (first second third : Option (List Piece)) (sent : ℕ) (bytes : List ℕ) (cover : Option (List ℕ)) → sent ≤ length bytes → Gave first second (take sent bytes) cover → OnFailed {T = ℕ} (Err trouble) (GavePart second third (drop sent bytes) cover) → OnNoMemory {T = ℕ} (Err trouble) (third ≡ second) → GavePart first third bytes cover
GavePart-after_error Failed first second third sent bytes cover within before part same =
    GavePart-next first second third sent bytes cover within before part
GavePart-after_error OutOfMemory first second third sent bytes cover within before part same =
    GavePart-stays first second third sent bytes cover within before same

-- the rest of a slice from a place on, as the program takes it
pub rest_from : (start : ℕ) (xs : List ℕ) → take (length xs - start) (drop start xs) ≡ drop start xs
rest_from start xs = subst (λ (n : ℕ). take n (drop start xs) ≡ drop start xs) (length-drop start xs) (take-length (drop start xs))

-- what holds anyhow holds after an error
pub OnErr-always : {T E P : Type 0} (result : Result T E) → P → OnErr result P
OnErr-always (Ok _) fact = tt
OnErr-always (Err _) fact = fact

-- the bytes that were moved to the front of a buffer are the next ones
pub front_of_buffer : (count : ℕ) (moved rest : List ℕ) → length moved ≡ count → take count (moved ++ rest) ≡ moved
front_of_buffer count moved rest size = subst (λ (n : ℕ). take n (moved ++ rest) ≡ moved) size (take-append_seam moved rest)

-- what was taken grows by the next bytes of the input
pub take-next : (start count : ℕ) (input moved rest : List ℕ) → start + count ≤ length input → moved ≡ take (start + count - start) (drop start input) → take (start + count) input ≡ take start input ++ take count (moved ++ rest)
take-next start count input moved rest within moves =
    let next : moved ≡ take count (drop start input) = moves ∙ ap (λ n. take n (drop start input)) (omega arith) in
    let size : length moved ≡ count =
    ap length next ∙ length-take-le count (drop start input) (omega (arith, length-drop start input))
    in
    take-add start count input ∙ ap (λ more. take start input ++ more) (sym (front_of_buffer count moved rest size ∙ next))

-- what is left loses the next bytes of the input
pub drop-next : (start count : ℕ) (input moved rest : List ℕ) → start + count ≤ length input → moved ≡ take (start + count - start) (drop start input) → drop start input ≡ take count (moved ++ rest) ++ drop (start + count) input
drop-next start count input moved rest within moves =
    let next : moved ≡ take count (drop start input) = moves ∙ ap (λ n. take n (drop start input)) (omega arith) in
    let size : length moved ≡ count =
    ap length next ∙ length-take-le count (drop start input) (omega (arith, length-drop start input))
    in
    let front : take count (moved ++ rest) ≡ take count (drop start input) = front_of_buffer count moved rest size ∙ next in
    sym (ap (λ more. more ++ drop (start + count) input) front ∙ ap (λ more. take count (drop start input) ++ more) (sym (drop-drop count start input)) ∙ take-append-drop count (drop start input))

-- the bytes of one more piece
pub bytes_of-take_more : (pieces : List Piece) (i : ℕ) (piece : Piece) → i < length pieces → get_or pieces i piece ≡ piece → bytes_of (take (i + 1) pieces) ≡ bytes_of (take i pieces) ++ piece.0
bytes_of-take_more pieces i piece within read =
    ap bytes_of (take_more pieces i piece within)
    ∙ bytes_of-append (take i pieces) (get_or pieces i piece ∷ [])
    ∙ ap (λ more. bytes_of (take i pieces) ++ more) (append-nil (get_or pieces i piece).0 ∙ ap (λ (p : Piece). p.0) read)
