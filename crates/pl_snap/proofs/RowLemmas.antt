-- Rows and pending operations, by their tags.
use Rattle.std.proofs.Common.{◌≡◌, ℕ, zero, suc, ◌+◌, ◌<◌, ◌≤◌, ◌^◌, Bool, true, false, cond, Option, None, Some, option_map, option_and_then, List, [], ◌∷◌, ◌++◌, length, map, find, take, get_or, count_by, refl, ap, sym, subst, ◌∙◌, arith, eqb-true, eq-eqb, suc-ne-zero}
use Rattle.std.specs.Prelude.{position, slice_get, remove, bytes_eq}
use Rattle.std.specs.List.{enumerate_from, range_with_len}
use Rattle.std.proofs.lemmas.List.{take_more, map-id}
use Rattle.std.proofs.lemmas.List.FromFn.{length-map-range_with_len, map-range_with_len_more}
use Rattle.std.proofs.lemmas.List.Sums.{sum_by-cons}
use Rattle.pl_state.specs.declared.entry.Entry.{Entry}
use Rattle.pl_state.specs.declared.pending.Pending.{Pending}
use Rattle.pl_snap.specs.declared.tag.Tag.{Tag}
use Rattle.pl_snap.specs.Lists.{changed_at, changed_first, without_first, zip_by}
use Rattle.pl_snap.specs.Model.{Row}
use Rattle.pl_snap.specs.Rows.{first_rows, first_tags, first_waiting, fits, has_number, is_counted, is_row, is_waiting, rows_in, set_end, set_rows, stamped, tagged_pending, tagged_row, tagged_rows, turned_row, turned_rows, turned_tag, turned_tags, turning_of}
use Rattle.pl_turning.specs.Turning.{Turning, turned_entry}
use Rattle.pl_snap.proofs.ListLemmas.{changed_zip, found_zip, get_map, length-changed_at, length-zip, map_first, map_second, missing_zip, place, place_within, position-place, removed_zip, zip-append}
use Rattle.pl_snap.proofs.Kept.{length-set_rows}

-- ---- tags

pub first_tags-more : (first n : ℕ) → first_tags first (n + 1) ≡ first_tags first n ++ record { number = n; stamp = first + n } ∷ []
first_tags-more first n = map-range_with_len_more (λ number. record { number = number; stamp = first + number }) 0 n n (omega arith)

pub length-first_tags : (first n : ℕ) → length (first_tags first n) ≡ n
length-first_tags first n = length-map-range_with_len (λ number. record { number = number; stamp = first + number }) 0 n

enumerate-append : {X : Type 0} (start : ℕ) (xs : List X) (x : X) → enumerate_from start (xs ++ x ∷ []) ≡ enumerate_from start xs ++ (start + length xs, x) ∷ []
enumerate-append start [] x = ap (λ (n : ℕ). (n, x) ∷ []) (omega arith)
enumerate-append start (y ∷ ys) x =
    ap (λ zs. (start, y) ∷ zs) (enumerate-append (start + 1) ys x)
    ∙ ap (λ (n : ℕ). (start, y) ∷ (enumerate_from (start + 1) ys ++ (n, x) ∷ [])) (omega arith)

length-enumerate : {X : Type 0} (start : ℕ) (xs : List X) → length (enumerate_from start xs) ≡ length xs
length-enumerate start [] = refl
length-enumerate start (x ∷ xs) = ap suc (length-enumerate (start + 1) xs)

length-take-within : {X : Type 0} (k : ℕ) (xs : List X) → k ≤ length xs → length (take k xs) ≡ k
length-take-within zero xs h = refl
length-take-within (suc k) [] h = absurd (omega arith)
length-take-within (suc k) (x ∷ xs) h = ap suc (length-take-within k xs (omega arith))

pub turned_tags-more : (urn : List ℕ) (first k : ℕ) (tags : List Tag) (entries : List Entry) (other : Tag) (entry : Entry) → length tags ≡ length entries → k < length entries → get_or entries k entry ≡ entry → turned_tags urn first (take (k + 1) tags) (take (k + 1) entries) ≡ turned_tags urn first (take k tags) (take k entries) ++ turned_tag urn entry (first + k) (get_or tags k other) ∷ []
turned_tags-more urn first k tags entries other entry same within entry_is =
    let tag : Tag = get_or tags k other in
    let tags_taken : take (k + 1) tags ≡ take k tags ++ tag ∷ [] = take_more tags k other (omega arith) in
    let entries_taken : take (k + 1) entries ≡ take k entries ++ entry ∷ [] = take_more entries k entry (omega arith) ∙ ap (λ (e : Entry). take k entries ++ e ∷ []) entry_is in
    let count : length (take k entries) ≡ k = length-take-within k entries (omega arith) in
    let f : Tag → ℕ × Entry → Tag = λ t one. turned_tag urn one.1 one.0 t in
    (λ i. turned_tags urn first (tags_taken i) (entries_taken i))
    ∙ ap (zip_by f (take k tags ++ tag ∷ [])) (enumerate-append first (take k entries) entry)
    ∙ zip-append f (take k tags) (enumerate_from first (take k entries)) tag (first + length (take k entries), entry)
    (length-take-within k tags (omega arith) ∙ sym count ∙ sym (length-enumerate first (take k entries)))
    ∙ ap (λ (n : ℕ). turned_tags urn first (take k tags) (take k entries) ++ turned_tag urn entry (first + n) tag ∷ []) count

pub length-turned_tags : (urn : List ℕ) (first : ℕ) (tags : List Tag) (entries : List Entry) → length tags ≡ length entries → length (turned_tags urn first tags entries) ≡ length entries
length-turned_tags urn first tags entries same =
    length-zip (λ tag one. turned_tag urn one.1 one.0 tag) tags (enumerate_from first entries) (same ∙ sym (length-enumerate first entries))
    ∙ length-enumerate first entries

-- what is made of things with their first tags
numbered_zip : {Y Z : Type 0} (f : Tag → Y → Z) (g : ℕ → Tag) (h : ℕ × Y → Z) → ((n : ℕ) (y : Y) → f (g n) y ≡ h (n, y)) → (start : ℕ) (ys : List Y) → zip_by f (map g (range_with_len start (length ys))) ys ≡ map h (enumerate_from start ys)
numbered_zip f g h same start [] = refl
numbered_zip f g h same start (y ∷ ys) = λ i. same start y i ∷ numbered_zip f g h same (start + 1) ys i

pub rows_first : (entries : List Entry) → tagged_rows (first_tags 0 (length entries)) entries ≡ first_rows entries
rows_first entries =
    numbered_zip tagged_row (λ number. record { number = number; stamp = 0 + number }) (λ one. record { number = Some one.0; stamp = one.0; entry = one.1 })
    (λ n entry. ap (λ (m : ℕ). record { number = Some n; stamp = m; entry = entry }) (omega arith)) 0 entries

pub waiting_first : (first : ℕ) (operations : List Pending) → zip_by tagged_pending (first_tags first (length operations)) operations ≡ first_waiting first operations
waiting_first first operations =
    numbered_zip tagged_pending (λ number. record { number = number; stamp = first + number }) (λ one. record { number = one.0; stamp = first + one.0; pending = one.1 })
    (λ n pending. refl) 0 operations

-- ---- rows

pub tagged_length : (tags : List Tag) (entries : List Entry) → fits None tags entries ≡ true → length tags ≡ length entries
tagged_length tags entries fit = eqb-true (length tags) (length entries) fit

entries-set_rows : (first : ℕ) (entries : List Entry) → map (λ row. row.entry) (set_rows first entries) ≡ entries
entries-set_rows first [] = refl
entries-set_rows first (entry ∷ entries) = ap (λ es. entry ∷ es) (entries-set_rows (first + 1) entries)

find-set_rows : (number first : ℕ) (entries : List Entry) → find (is_row number) (set_rows first entries) ≡ None
find-set_rows number first [] = refl
find-set_rows number first (entry ∷ entries) = find-set_rows number (first + 1) entries

stamp-set_rows : (first k : ℕ) (entries : List Entry) → k < length entries → option_map (λ row. row.stamp) (slice_get (set_rows first entries) k) ≡ Some (first + k)
stamp-set_rows first k [] h = absurd (omega arith)
stamp-set_rows first zero (entry ∷ entries) h = ap Some (omega arith)
stamp-set_rows first (suc k) (entry ∷ entries) h = stamp-set_rows (first + 1) k entries (omega arith) ∙ ap Some (omega arith)

pub length-rows : (set : Option ℕ) (tags : List Tag) (entries : List Entry) → fits set tags entries ≡ true → length (rows_in set tags entries) ≡ length entries
length-rows None tags entries fit = length-zip tagged_row tags entries (tagged_length tags entries fit)
length-rows (Some first) tags entries fit = length-set_rows first entries

pub entries-rows : (set : Option ℕ) (tags : List Tag) (entries : List Entry) → fits set tags entries ≡ true → map (λ row. row.entry) (rows_in set tags entries) ≡ entries
entries-rows None tags entries fit =
    map_second tagged_row (λ row. row.entry) (λ entry. entry) (λ tag entry. refl) tags entries (tagged_length tags entries fit) ∙ map-id entries
entries-rows (Some first) tags entries fit = entries-set_rows first entries

pub entry-row : (set : Option ℕ) (tags : List Tag) (entries : List Entry) (k : ℕ) → fits set tags entries ≡ true → option_map (λ row. row.entry) (slice_get (rows_in set tags entries) k) ≡ slice_get entries k
entry-row set tags entries k fit = get_map (λ row. row.entry) (rows_in set tags entries) k ∙ ap (λ es. slice_get es k) (entries-rows set tags entries fit)

pub stamp-tagged : (tags : List Tag) (entries : List Entry) (k : ℕ) → fits None tags entries ≡ true → option_map (λ row. row.stamp) (slice_get (rows_in None tags entries) k) ≡ option_map (λ tag. tag.stamp) (slice_get tags k)
stamp-tagged tags entries k fit =
    get_map (λ row. row.stamp) (tagged_rows tags entries) k
    ∙ ap (λ stamps. slice_get stamps k) (map_first tagged_row (λ row. row.stamp) (λ tag. tag.stamp) (λ tag entry. refl) tags entries (tagged_length tags entries fit))
    ∙ sym (get_map (λ tag. tag.stamp) tags k)

pub stamp-set : (first : ℕ) (tags : List Tag) (entries : List Entry) (k : ℕ) → k < length entries → option_map (λ row. row.stamp) (slice_get (rows_in (Some first) tags entries) k) ≡ Some (first + k)
stamp-set first tags entries k within = stamp-set_rows first k entries within

abbrev IsAt : ℕ → List Tag → ℕ → Type 0
IsAt number tags k = position (has_number number) tags ≡ Some k

place_is : (number : ℕ) (tags : List Tag) (k : ℕ) → IsAt number tags k → place (has_number number) tags ≡ Some k
place_is number tags k at = sym (position-place (has_number number) tags) ∙ at

nowhere : (number : ℕ) (k : ℕ) (first : ℕ) (tags : List Tag) (entries : List Entry) → fits (Some first) tags entries ≡ true → place (has_number number) tags ≡ Some k → ⊥
nowhere number k first [] entries fit at = (cc)
nowhere number k first (tag ∷ tags) entries fit at = suc-ne-zero (length tags) (eqb-true (length (tag ∷ tags)) 0 fit)

pub missing-row : (set : Option ℕ) (tags : List Tag) (entries : List Entry) (number : ℕ) → position (has_number number) tags ≡ None → find (is_row number) (rows_in set tags entries) ≡ None
missing-row None tags entries number none =
    missing_zip tagged_row (is_row number) (has_number number) (λ tag entry. refl) tags entries (sym (position-place (has_number number) tags) ∙ none)
missing-row (Some first) tags entries number none = find-set_rows number first entries

pub found-row : (set : Option ℕ) (tags : List Tag) (entries : List Entry) (number k : ℕ) → fits set tags entries ≡ true → position (has_number number) tags ≡ Some k → option_map (λ row. row.entry) (find (is_row number) (rows_in set tags entries)) ≡ slice_get entries k
found-row None tags entries number k fit at =
    found_zip tagged_row (is_row number) (has_number number) (λ tag entry. refl) (λ row. row.entry) (λ entry. entry) (λ tag entry. refl) tags entries k
    (tagged_length tags entries fit) (place_is number tags k at) ∙ same_option (slice_get entries k)
  where
    same_option : (o : Option Entry) → option_map (λ entry. entry) o ≡ o
    same_option None = refl
    same_option (Some entry) = refl
found-row (Some first) tags entries number k fit at = absurd (nowhere number k first tags entries fit (place_is number tags k at))

length-remove : {X : Type 0} (xs : List X) (k : ℕ) → k < length xs → length (remove xs k) + 1 ≡ length xs
length-remove [] k h = absurd (omega arith)
length-remove (x ∷ xs) zero h = omega arith
length-remove (x ∷ xs) (suc k) h = omega (arith, length-remove xs k (omega arith))

-- what is kept of rows holds together
pub record Holds (set : Option ℕ) (tags : List Tag) (entries : List Entry) (rows : List Row) : Type 0 where
  pub fit : fits set tags entries ≡ true
  pub below : set_end set (length entries) ≤ 2 ^ 62
  pub are : rows_in set tags entries ≡ rows

pub retired-rows : (set : Option ℕ) (tags : List Tag) (entries : List Entry) (number k : ℕ) → fits set tags entries ≡ true → position (has_number number) tags ≡ Some k → Holds set (remove tags k) (remove entries k) (without_first (is_row number) (rows_in set tags entries))
retired-rows None tags entries number k fit at =
    let same : length tags ≡ length entries = tagged_length tags entries fit in
    let here : place (has_number number) tags ≡ Some k = place_is number tags k at in
    let inside : k < length tags = place_within (has_number number) tags k here in
    record {
      fit = eq-eqb (length (remove tags k)) (length (remove entries k)) (omega (arith, length-remove tags k inside, length-remove entries k (omega arith)));
      below = omega arith;
      are = removed_zip tagged_row (is_row number) (has_number number) (λ tag entry. refl) tags entries k same here;
    }
retired-rows (Some first) tags entries number k fit at = absurd (nowhere number k first tags entries fit (place_is number tags k at))

pub changed-rows : (set : Option ℕ) (tags : List Tag) (entries : List Entry) (number k stamp : ℕ) (v : Entry → Entry) (c : Row → Row) → ((tag : Tag) (entry : Entry) → tagged_row (stamped stamp tag) (v entry) ≡ c (tagged_row tag entry)) → fits set tags entries ≡ true → position (has_number number) tags ≡ Some k → Holds set (changed_at (stamped stamp) k tags) (changed_at v k entries) (changed_first (is_row number) c (rows_in set tags entries))
changed-rows None tags entries number k stamp v c both fit at =
    let same : length tags ≡ length entries = tagged_length tags entries fit in
    record {
      fit = eq-eqb (length (changed_at (stamped stamp) k tags)) (length (changed_at v k entries)) (length-changed_at (stamped stamp) k tags ∙ same ∙ sym (length-changed_at v k entries));
      below = omega arith;
      are = changed_zip tagged_row (is_row number) (has_number number) (stamped stamp) v c (λ tag entry. refl) both tags entries k same (place_is number tags k at);
    }
changed-rows (Some first) tags entries number k stamp v c both fit at = absurd (nowhere number k first tags entries fit (place_is number tags k at))

pub turned-rows : (turning : Turning) (first : ℕ) (tags : List Tag) (entries : List Entry) → length tags ≡ length entries → tagged_rows (turned_tags turning.old first tags entries) (map (λ entry. turned_entry entry turning) entries) ≡ turned_rows turning first (tagged_rows tags entries)
turned-rows turning first [] [] same = refl
turned-rows turning first [] (entry ∷ entries) same = absurd (omega arith)
turned-rows turning first (tag ∷ tags) [] same = absurd (omega arith)
turned-rows turning first (tag ∷ tags) (entry ∷ entries) same =
    ap (λ rows. turned_row turning first (tagged_row tag entry) ∷ rows) (turned-rows turning (first + 1) tags entries (omega arith))

tagged_if-found : (set : Option ℕ) (tags : List Tag) (entries : List Entry) (number : ℕ) (entry : Entry) → option_map (λ row. row.entry) (find (is_row number) (rows_in set tags entries)) ≡ Some entry → set ≡ None
tagged_if-found None tags entries number entry found = refl
tagged_if-found (Some first) tags entries number entry found =
    let never : find (is_row number) (set_rows first entries) ≡ None = find-set_rows number first entries in
    let none : option_map (λ row. row.entry) (find (is_row number) (set_rows first entries)) ≡ None = ap (option_map (λ row. row.entry)) never in
    absurd (cc)

-- the tags of rows of which one has a number
pub tagged-found : (set : Option ℕ) (tags : List Tag) (entries : List Entry) (rows : List Row) (number : ℕ) (entry : Entry) → fits set tags entries ≡ true → rows_in set tags entries ≡ rows → Some entry ≡ option_map (λ row. row.entry) (find (is_row number) rows) → (length tags ≡ length entries) × (tagged_rows tags entries ≡ rows)
tagged-found set tags entries rows number entry fit view found =
    let none : set ≡ None = tagged_if-found set tags entries number entry (ap (λ (all : List Row). option_map (λ row. row.entry) (find (is_row number) all)) view ∙ sym found) in (
      tagged_length tags entries (subst (λ (o : Option ℕ). fits o tags entries ≡ true) none fit),
      subst (λ (o : Option ℕ). rows_in o tags entries ≡ rows) none view,
    )

-- the rows in which the URN of a claim is turned
pub turned-claim : (claim : Option Row) (row : Entry) (urn : List ℕ) (first : ℕ) (rows made : List Row) → Some row ≡ option_map (λ one. one.entry) claim → bytes_eq row.urn urn ≡ false → made ≡ turned_rows (record { old = row.urn; new = urn }) first rows → Some made ≡ option_map (λ turning. turned_rows turning first rows) (option_and_then (turning_of urn) claim)
turned-claim None row urn first rows made found differs is = absurd (cc)
turned-claim (Some one) row urn first rows made found differs is =
    let same : row ≡ one.entry = cc in
    subst (λ (entry : Entry). Some made ≡ option_map (λ turning. turned_rows turning first rows) (cond (bytes_eq entry.urn urn) None (Some (record { old = entry.urn; new = urn })))) same
    (ap Some is ∙ sym (ap (λ (b : Bool). option_map (λ turning. turned_rows turning first rows) (cond b None (Some (record { old = row.urn; new = urn })))) differs))

-- ---- pending operations

pub pending-waiting : (tags : List Tag) (operations : List Pending) → length tags ≡ length operations → map (λ one. one.pending) (zip_by tagged_pending tags operations) ≡ operations
pending-waiting tags operations same =
    map_second tagged_pending (λ one. one.pending) (λ pending. pending) (λ tag pending. refl) tags operations same ∙ map-id operations

pub counted-waiting : (tags : List Tag) (operations : List Pending) → length tags ≡ length operations → count_by (λ one. is_counted one.pending) (zip_by tagged_pending tags operations) ≡ count_by is_counted operations
counted-waiting [] [] same = refl
counted-waiting [] (pending ∷ operations) same = absurd (omega arith)
counted-waiting (tag ∷ tags) [] same = absurd (omega arith)
counted-waiting (tag ∷ tags) (pending ∷ operations) same =
    sum_by-cons (λ one. cond (is_counted one.pending) 1 0) (tagged_pending tag pending) (zip_by tagged_pending tags operations)
    ∙ ap (λ (n : ℕ). cond (is_counted pending) 1 0 + n) (counted-waiting tags operations (omega arith))
    ∙ sym (sum_by-cons (λ one. cond (is_counted one) 1 0) pending operations)

pub missing-waiting : (tags : List Tag) (operations : List Pending) (number : ℕ) → position (has_number number) tags ≡ None → find (is_waiting number) (zip_by tagged_pending tags operations) ≡ None
missing-waiting tags operations number none =
    missing_zip tagged_pending (is_waiting number) (has_number number) (λ tag pending. refl) tags operations (sym (position-place (has_number number) tags) ∙ none)

pub removed-waiting : (tags : List Tag) (operations : List Pending) (number k : ℕ) → length tags ≡ length operations → position (has_number number) tags ≡ Some k → (length (remove tags k) ≡ length (remove operations k)) × (zip_by tagged_pending (remove tags k) (remove operations k) ≡ without_first (is_waiting number) (zip_by tagged_pending tags operations))
removed-waiting tags operations number k same at =
    let here : place (has_number number) tags ≡ Some k = place_is number tags k at in
    let inside : k < length tags = place_within (has_number number) tags k here in (
      omega (arith, length-remove tags k inside, length-remove operations k (omega arith)),
      removed_zip tagged_pending (is_waiting number) (has_number number) (λ tag pending. refl) tags operations k same here,
    )
