-- The rows that are left, one after another.
use Rattle.std.proofs.Common.{◌≡◌, ◌<◌, ◌+◌, ℕ, zero, suc, Bool, true, false, cond, List, [], ◌∷◌, ◌++◌, length, map, drop, take, reverse, get_or, Option, Some, None, refl, sym, ap, ◌∙◌, arith}
use Rattle.std.proofs.Math.Seq.{take-length}
use Rattle.std.proofs.lemmas.List.{append-nil, drop_more}
use Rattle.std.specs.List.{list_any, slice_get}
use Rattle.pl_lemmas.specs.Words.{option_list}
use Rattle.pl_state.specs.References.{has_urn}
use Rattle.pl_state.specs.declared.entry.Entry.{Entry}
use Rattle.pl_refresh.specs.Refreshed.{imported_left, is_there, Left, left_of, nearest, pruned, pruned_behind, pruned_row, replaced_left, replaced_row, rows_left}
use Rattle.pl_refresh.specs.declared.row_now.RowNow.{RowNow}
use Rattle.pl_refresh.specs.declared.row_now.RowNow.TheVariants.{AsItWas, Found, Gone}

-- an entry at a place
abbrev pub at_place : ℕ → Entry → Left
at_place place row = record { place = place; row = row }

-- what is left of one row, by what is said of it
abbrev pub one_left : Entry → Option RowNow → List Entry
one_left row found = map (λ left. left.row) (rows_left 0 (row ∷ []) (option_list found))

one_left-placed : (place : ℕ) (row : Entry) (found : Option RowNow) → rows_left place (row ∷ []) (option_list found) ≡ map (at_place place) (one_left row found)
one_left-placed place row None = refl
one_left-placed place row (Some AsItWas) = refl
one_left-placed place row (Some (Found entry)) = refl
one_left-placed place row (Some Gone) = refl

first_apart : (place : ℕ) (row : Entry) (rows : List Entry) (now : List RowNow) (at : ℕ) → rows_left place (row ∷ rows) (drop at now) ≡ rows_left place (row ∷ []) (option_list (slice_get now at)) ++ rows_left (suc place) rows (drop (suc at) now)
first_apart place row rows [] zero = refl
first_apart place row rows (one ∷ now) zero = ap (λ (l : List Left). l ++ rows_left (suc place) rows now) (sym (append-nil (left_of place row one)))
first_apart place row rows [] (suc at) = refl
first_apart place row rows (one ∷ now) (suc at) = first_apart place row rows now at

-- what is left from a place on, that of the first row apart
rows_left-more : (base : List Entry) (now : List RowNow) (place : ℕ) (row : Entry) → place < length base → row ≡ get_or base place row → rows_left place (drop place base) (drop place now) ≡ map (at_place place) (one_left row (slice_get now place)) ++ rows_left (place + 1) (drop (place + 1) base) (drop (place + 1) now)
rows_left-more base now place row inside is =
    let next : suc place ≡ place + 1 = omega arith in
    let here : List Left = rows_left place (row ∷ []) (option_list (slice_get now place)) in
    ap (λ (l : List Entry). rows_left place l (drop place now)) (drop_more base place row inside ∙ ap (λ (r : Entry). r ∷ drop (place + 1) base) (sym is))
    ∙ first_apart place row (drop (place + 1) base) now place
    ∙ ap (λ (n : ℕ). here ++ rows_left n (drop (place + 1) base) (drop n now)) next
    ∙ ap (λ (l : List Left). l ++ rows_left (place + 1) (drop (place + 1) base) (drop (place + 1) now)) (one_left-placed place row (slice_get now place))

-- what the rows from a place on add to the entries before
abbrev pub base_behind : List Entry → List RowNow → List Entry → List Entry → ℕ → List Entry
base_behind base now imported earlier place =
    pruned_behind base earlier (map (replaced_left imported) (rows_left place (drop place base) (drop place now)))

pub base_kept : (base : List Entry) (now : List RowNow) (imported earlier : List Entry) (place : ℕ) (row left : Entry) → place < length base → row ≡ get_or base place row → left ∷ [] ≡ one_left row (slice_get now place) → base_behind base now imported earlier place ≡ base_behind base now imported (earlier ++ pruned_row base earlier (replaced_left imported (at_place place left)) ∷ []) (place + 1)
base_kept base now imported earlier place row left inside is told =
    let rest : List Left = rows_left (place + 1) (drop (place + 1) base) (drop (place + 1) now) in
    ap (λ (l : List Left). pruned_behind base earlier (map (replaced_left imported) l))
    (rows_left-more base now place row inside is
    ∙ ap (λ (l : List Entry). map (at_place place) l ++ rest) (sym told))

pub base_gone : (base : List Entry) (now : List RowNow) (imported earlier : List Entry) (place : ℕ) (row : Entry) → place < length base → row ≡ get_or base place row → [] ≡ one_left row (slice_get now place) → base_behind base now imported earlier place ≡ base_behind base now imported earlier (place + 1)
base_gone base now imported earlier place row inside is told =
    let rest : List Left = rows_left (place + 1) (drop (place + 1) base) (drop (place + 1) now) in
    ap (λ (l : List Left). pruned_behind base earlier (map (replaced_left imported) l))
    (rows_left-more base now place row inside is
    ∙ ap (λ (l : List Entry). map (at_place place) l ++ rest) (sym told))

same_id : (b : Bool) (row : Entry) → (cond b (record row { doomed = true }) row).id ≡ row.id
same_id true row = refl
same_id false row = refl

-- an entry keeps its id
pub replaced_id : (base earlier imported : List Entry) (left : Left) (made : Entry) → made ≡ pruned_row base earlier (replaced_left imported left) → made.id ≡ left.row.id
replaced_id base earlier imported left made is =
    ap (λ (entry : Entry). entry.id) is ∙ same_id (list_any (has_urn left.row.urn) imported) left.row

-- of the base an entry needs the rows before it alone
pub rows_before : (base earlier imported passed : List Entry) (place : ℕ) (row made : Entry) → passed ≡ take place base → made ≡ pruned_row passed earlier (replaced_left imported (at_place (length passed) row)) → made ≡ pruned_row base earlier (replaced_left imported (at_place place row))
rows_before base earlier imported passed place row made h is =
    is
    ∙ ap (λ (before : List Entry). record (pruned_row base earlier (replaced_left imported (at_place place row))) { parent = nearest (is_there earlier) (reverse before) (replaced_row imported row).parent })
    (take-length passed ∙ h)

-- the entries behind those that stand already, in two parts
pub pruned_behind-append : (base earlier : List Entry) (xs ys : List Left) → pruned_behind base earlier (xs ++ ys) ≡ pruned_behind base (pruned_behind base earlier xs) ys
pruned_behind-append base earlier [] ys = refl
pruned_behind-append base earlier (x ∷ xs) ys = pruned_behind-append base (earlier ++ pruned_row base earlier x ∷ []) xs ys

-- one imported entry more
pub imported_more : (base earlier imported : List Entry) (at : ℕ) (row : Entry) → at < length imported → row ≡ get_or imported at row → pruned_behind base earlier (imported_left base (drop at imported)) ≡ pruned_behind base (earlier ++ pruned_row base earlier (at_place (length base) row) ∷ []) (imported_left base (drop (at + 1) imported))
imported_more base earlier imported at row inside is =
    ap (λ (l : List Entry). pruned_behind base earlier (imported_left base l)) (drop_more imported at row inside ∙ ap (λ (r : Entry). r ∷ drop (at + 1) imported) (sym is))

-- the entries of the base, and then the imported ones, are all entries
pub pruned_parts : (base : List Entry) (now : List RowNow) (imported of_base all : List Entry) → of_base ≡ base_behind base now imported [] 0 → all ≡ pruned_behind base of_base (imported_left base imported) → all ≡ pruned base now imported
pruned_parts base now imported of_base all first second =
    second
    ∙ ap (λ (earlier : List Entry). pruned_behind base earlier (imported_left base imported)) first
    ∙ sym (pruned_behind-append base [] (map (replaced_left imported) (rows_left 0 base now)) (imported_left base imported))
