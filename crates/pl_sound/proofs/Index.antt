-- What the index of rows says of the rows in it.
use Rattle.std.proofs.Common.{◌≡◌, ◌<◌, ◌+◌, ◌&&◌, ◌||◌, ℕ, Bool, true, false, not, cond, List, [], ◌∷◌, ◌++◌, length, take, drop, map, get_or, refl, sym, ap, ◌∙◌, Option, Some, None, Ordering, Bor, Result, Ok, Err, IfOk, append-nil}
use Rattle.std.proofs.lemmas.List.{drop_more, map-append, take-append-drop, take_more}
use Rattle.std.proofs.lemmas.List.Folds.{find-append, list_any_more}
use Rattle.std.proofs.lemmas.List.Concat.{flat_map-append}
use Rattle.std.proofs.lemmas.Option.{slice_get_read}
use Rattle.std.proofs.lemmas.Map.Text.{is_eq-slice_cmp}
use Rattle.std.specs.BTreeSet.{BTreeSet, Updates}
use Rattle.std.specs.Cmp.Lexicographic.{slice_cmp}
use Rattle.std.specs.List.{find, flat_map, list_any}
use Rattle.std.specs.Option.{option_map, option_or}
use Rattle.std.specs.declared.cmp.Ordering.TheVariants.{Less, Equal, Greater}
use Rattle.std.specs.Ordering.{is_eq, nat_cmp, ordering_then}
use Rattle.std.specs.Str.{bytes_eq}
use Rattle.pl_state.specs.declared.entry.Entry.{Entry}
use Rattle.pl_state.specs.declared.fault.Missing.{Missing}
use Rattle.pl_state.specs.declared.fault.Missing.TheVariants.{Twice, Parent, Provider, Dependency, DeletedWith}
use Rattle.pl_sound.specs.declared.seen.Seen.{Seen}
use Rattle.pl_sound.specs.Seen.{gives, has_pair, has_text, HasOneMore}
use Rattle.pl_state.specs.References.{has_urn, is_provider, keeps_urn, optional_refs, property_urns}
use Rattle.pl_sound.specs.Sound.{fault_at, first_unmet, is_met, own_wants, wants}
use Rattle.pl_sound.proofs.Soundness.{fault_at-row}

abbrev text_cmp : Bor (List ℕ) → Bor (List ℕ) → Ordering
text_cmp x y = slice_cmp nat_cmp x.now y.now

abbrev pair_cmp : Bor (List ℕ) × Bor (List ℕ) → Bor (List ℕ) × Bor (List ℕ) → Ordering
pair_cmp x y = ordering_then (text_cmp x.0 y.0) (text_cmp x.1 y.1)

-- a reference to a text
abbrev to : List ℕ → Bor (List ℕ)
to text = record { ref_ptr = (0, 0); now = text }

cond_or : (a b c : Bool) → a ≡ c → cond a true b ≡ (c || b)
cond_or true b true h = refl
cond_or true b false h = ap (λ (t : Bool). t || b) h
cond_or false b true h = ap (λ (t : Bool). t || b) h
cond_or false b false h = refl

is_eq-then : (a b : Ordering) → is_eq (ordering_then a b) ≡ (is_eq a && is_eq b)
is_eq-then Less b = refl
is_eq-then Equal b = refl
is_eq-then Greater b = refl

both : (a b c d : Bool) → a ≡ c → b ≡ d → (a && b) ≡ (c && d)
both a b c d h k = ap (λ (t : Bool). t && b) h ∙ ap (λ (t : Bool). c && t) k

-- a set after `insert` of a text
pub has_text-insert : (old new : BTreeSet (Bor (List ℕ))) (text : Bor (List ℕ)) → Updates text_cmp old new text true → (other : List ℕ) → has_text new other ≡ (bytes_eq text.now other || has_text old other)
has_text-insert old new text h other =
    h.0 (to other) ∙ cond_or (is_eq (slice_cmp nat_cmp text.now other)) (has_text old other) (bytes_eq text.now other) (is_eq-slice_cmp text.now other)

-- a set after `insert` of a pair
pub has_pair-insert : (old new : BTreeSet (Bor (List ℕ) × Bor (List ℕ))) (first second : Bor (List ℕ)) → Updates pair_cmp old new (first, second) true → (one other : List ℕ) → has_pair new one other ≡ ((bytes_eq first.now one && bytes_eq second.now other) || has_pair old one other)
has_pair-insert old new first second h one other =
    h.0 (to one, to other) ∙ cond_or _ (has_pair old one other) (bytes_eq first.now one && bytes_eq second.now other)
    (is_eq-then (slice_cmp nat_cmp first.now one) (slice_cmp nat_cmp second.now other)
    ∙ both _ _ _ _ (is_eq-slice_cmp first.now one) (is_eq-slice_cmp second.now other))

-- the wants that an index does not give
abbrev pub lacks : Seen → Missing → Bool
lacks seen want = not (gives seen want)

found_step : (b : Bool) (urn : List ℕ) (o : Option Missing) (p : Option (List ℕ)) → o ≡ option_map Dependency p → cond b (Some (Dependency urn)) o ≡ option_map Dependency (cond b (Some urn) p)
found_step true urn o p h = refl
found_step false urn o p h = h

-- the first URN that an index lacks, as a want
find-dependencies : (seen : Seen) (urns : List (List ℕ)) → find (lacks seen) (map Dependency urns) ≡ option_map Dependency (find (λ urn. not (has_text seen.urns urn)) urns)
find-dependencies seen [] = refl
find-dependencies seen (urn ∷ urns) = found_step (not (has_text seen.urns urn)) urn _ _ (find-dependencies seen urns)

pub dependencies_found : (seen : Seen) (urns : List (List ℕ)) (found : Option (List ℕ)) → found ≡ find (λ urn. not (has_text seen.urns urn)) urns → option_map Dependency found ≡ find (lacks seen) (map Dependency urns)
dependencies_found seen urns found h = ap (option_map Dependency) h ∙ sym (find-dependencies seen urns)

-- the first of these URNs that an index lacks, as a want
abbrev pub lacking_in : Seen → List (List ℕ) → Option Missing
lacking_in seen urns = find (lacks seen) (map Dependency urns)

abbrev pub Pair : Type 0
Pair = List ℕ × List (List ℕ)

-- the first want of the properties that an index lacks
abbrev pub lacking_of : Seen → List Pair → Option Missing
lacking_of seen pairs = find (lacks seen) (map Dependency (flat_map (λ pair. pair.1) pairs))

lacking_of-append : (seen : Seen) (xs ys : List Pair) → lacking_of seen (xs ++ ys) ≡ option_or (lacking_of seen xs) (lacking_of seen ys)
lacking_of-append seen xs ys =
    let urns : List Pair → List (List ℕ) = flat_map (λ pair. pair.1) in
    ap (λ (l : List (List ℕ)). find (lacks seen) (map Dependency l)) (flat_map-append (λ pair. pair.1) xs ys)
    ∙ ap (find (lacks seen)) (map-append Dependency (urns xs) (urns ys))
    ∙ find-append (lacks seen) (map Dependency (urns xs)) (map Dependency (urns ys))

-- one more property whose URNs are all there
pub lacking_of-more : (seen : Seen) (pairs : List Pair) (i : ℕ) (pair : Pair) → i < length pairs → pair ≡ get_or pairs i pair → lacking_of seen (take i pairs) ≡ None → None ≡ find (lacks seen) (map Dependency pair.1) → lacking_of seen (take (i + 1) pairs) ≡ None
lacking_of-more seen pairs i pair inside is before here =
    ap (lacking_of seen) (take_more pairs i pair inside ∙ ap (λ (p : Pair). take i pairs ++ p ∷ []) (sym is))
    ∙ lacking_of-append seen (take i pairs) (pair ∷ [])
    ∙ ap (λ (o : Option Missing). option_or o (lacking_of seen (pair ∷ []))) before
    ∙ ap (λ (l : List (List ℕ)). find (lacks seen) (map Dependency l)) (append-nil pair.1)
    ∙ sym here

-- the first property of which a URN is not there
pub lacking_of-found : (seen : Seen) (pairs : List Pair) (i : ℕ) (pair : Pair) (missing : Missing) → i < length pairs → pair ≡ get_or pairs i pair → lacking_of seen (take i pairs) ≡ None → Some missing ≡ find (lacks seen) (map Dependency pair.1) → Some missing ≡ lacking_of seen pairs
lacking_of-found seen pairs i pair missing inside is before here =
    let rest : List Pair = drop (i + 1) pairs in
    let parts : pairs ≡ take i pairs ++ pair ∷ rest = sym (take-append-drop i pairs) ∙ ap (λ (l : List Pair). take i pairs ++ l) (drop_more pairs i pair inside ∙ ap (λ (p : Pair). p ∷ rest) (sym is)) in
    let alone : lacking_of seen (pair ∷ rest) ≡ Some missing =
    ap (find (lacks seen)) (map-append Dependency pair.1 (flat_map (λ p. p.1) rest))
    ∙ find-append (lacks seen) (map Dependency pair.1) (map Dependency (flat_map (λ p. p.1) rest))
    ∙ ap (λ (o : Option Missing). option_or o (lacking_of seen rest)) (sym here) in
    sym (ap (lacking_of seen) parts
    ∙ lacking_of-append seen (take i pairs) (pair ∷ rest)
    ∙ ap (λ (o : Option Missing). option_or o (lacking_of seen (pair ∷ rest))) before
    ∙ alone)

-- what a row misses first, kind by kind
pub first_unmet-parts : (seen : Seen) (row : Entry) → first_unmet (gives seen) row ≡ option_or (find (lacks seen) (own_wants row)) (option_or (find (lacks seen) (optional_refs Parent row.parent)) (option_or (find (lacks seen) (optional_refs Provider row.provider)) (option_or (find (lacks seen) (map Dependency row.dependencies)) (option_or (find (lacks seen) (map Dependency (property_urns row.property_dependencies))) (find (lacks seen) (optional_refs DeletedWith row.deleted_with))))))
unfolding first_unmet
first_unmet-parts seen row =
    let own : List Missing = own_wants row in
    let parent : List Missing = optional_refs Parent row.parent in
    let provider : List Missing = optional_refs Provider row.provider in
    let urns : List Missing = map Dependency row.dependencies in
    let properties : List Missing = map Dependency (property_urns row.property_dependencies) in
    let deleter : List Missing = optional_refs DeletedWith row.deleted_with in
    find-append (lacks seen) own (parent ++ (provider ++ (urns ++ (properties ++ deleter))))
    ∙ ap (λ (o : Option Missing). option_or (find (lacks seen) own) o) (find-append (lacks seen) parent (provider ++ (urns ++ (properties ++ deleter)))
    ∙ ap (λ (o : Option Missing). option_or (find (lacks seen) parent) o) (find-append (lacks seen) provider (urns ++ (properties ++ deleter))
    ∙ ap (λ (o : Option Missing). option_or (find (lacks seen) provider) o) (find-append (lacks seen) urns (properties ++ deleter)
    ∙ ap (λ (o : Option Missing). option_or (find (lacks seen) urns) o) (find-append (lacks seen) properties deleter))))

option_or-taken : (a rest : Option Missing) (missing : Missing) → Some missing ≡ a → Some missing ≡ option_or a rest
option_or-taken a rest missing h = ap (λ (o : Option Missing). option_or o rest) h

option_or-passed : (a rest missing : Option Missing) → None ≡ a → missing ≡ rest → missing ≡ option_or a rest
option_or-passed a rest missing h k = k ∙ ap (λ (o : Option Missing). option_or o rest) h

abbrev pub own_lack : Seen → Entry → Option Missing
own_lack seen row = find (lacks seen) (own_wants row)

abbrev pub parent_lack : Seen → Entry → Option Missing
parent_lack seen row = find (lacks seen) (optional_refs Parent row.parent)

abbrev pub provider_lack : Seen → Entry → Option Missing
provider_lack seen row = find (lacks seen) (optional_refs Provider row.provider)

abbrev pub property_lack : Seen → Entry → Option Missing
property_lack seen row = lacking_in seen (property_urns row.property_dependencies)

abbrev pub deleter_lack : Seen → Entry → Option Missing
deleter_lack seen row = find (lacks seen) (optional_refs DeletedWith row.deleted_with)

abbrev after_dependencies : Seen → Entry → Option Missing
after_dependencies seen row = option_or (property_lack seen row) (deleter_lack seen row)

abbrev after_provider : Seen → Entry → Option Missing
after_provider seen row = option_or (lacking_in seen row.dependencies) (after_dependencies seen row)

abbrev after_parent : Seen → Entry → Option Missing
after_parent seen row = option_or (provider_lack seen row) (after_provider seen row)

abbrev after_own : Seen → Entry → Option Missing
after_own seen row = option_or (parent_lack seen row) (after_parent seen row)

-- the first lack is the own one, or a later one where those before it are none
pub own_first : (seen : Seen) (row : Entry) (missing : Missing) → Some missing ≡ own_lack seen row → Some missing ≡ first_unmet (gives seen) row
own_first seen row missing own = option_or-taken (own_lack seen row) (after_own seen row) missing own ∙ sym (first_unmet-parts seen row)

pub parent_first : (seen : Seen) (row : Entry) (missing : Missing) → None ≡ own_lack seen row → Some missing ≡ parent_lack seen row → Some missing ≡ first_unmet (gives seen) row
parent_first seen row missing own parent =
    option_or-passed (own_lack seen row) (after_own seen row) (Some missing) own
    (option_or-taken (parent_lack seen row) (after_parent seen row) missing parent)
    ∙ sym (first_unmet-parts seen row)

pub provider_first : (seen : Seen) (row : Entry) (missing : Missing) → None ≡ own_lack seen row → None ≡ parent_lack seen row → Some missing ≡ provider_lack seen row → Some missing ≡ first_unmet (gives seen) row
provider_first seen row missing own parent provider =
    option_or-passed (own_lack seen row) (after_own seen row) (Some missing) own
    (option_or-passed (parent_lack seen row) (after_parent seen row) (Some missing) parent
    (option_or-taken (provider_lack seen row) (after_provider seen row) missing provider))
    ∙ sym (first_unmet-parts seen row)

pub dependency_first : (seen : Seen) (row : Entry) (missing : Missing) → None ≡ own_lack seen row → None ≡ parent_lack seen row → None ≡ provider_lack seen row → Some missing ≡ lacking_in seen row.dependencies → Some missing ≡ first_unmet (gives seen) row
dependency_first seen row missing own parent provider dependency =
    option_or-passed (own_lack seen row) (after_own seen row) (Some missing) own
    (option_or-passed (parent_lack seen row) (after_parent seen row) (Some missing) parent
    (option_or-passed (provider_lack seen row) (after_provider seen row) (Some missing) provider
    (option_or-taken (lacking_in seen row.dependencies) (after_dependencies seen row) missing dependency)))
    ∙ sym (first_unmet-parts seen row)

pub property_first : (seen : Seen) (row : Entry) (missing : Missing) → None ≡ own_lack seen row → None ≡ parent_lack seen row → None ≡ provider_lack seen row → None ≡ lacking_in seen row.dependencies → Some missing ≡ property_lack seen row → Some missing ≡ first_unmet (gives seen) row
property_first seen row missing own parent provider dependency property =
    option_or-passed (own_lack seen row) (after_own seen row) (Some missing) own
    (option_or-passed (parent_lack seen row) (after_parent seen row) (Some missing) parent
    (option_or-passed (provider_lack seen row) (after_provider seen row) (Some missing) provider
    (option_or-passed (lacking_in seen row.dependencies) (after_dependencies seen row) (Some missing) dependency
    (option_or-taken (property_lack seen row) (deleter_lack seen row) missing property))))
    ∙ sym (first_unmet-parts seen row)

pub deleter_first : (seen : Seen) (row : Entry) (missing : Option Missing) → None ≡ own_lack seen row → None ≡ parent_lack seen row → None ≡ provider_lack seen row → None ≡ lacking_in seen row.dependencies → None ≡ property_lack seen row → missing ≡ deleter_lack seen row → missing ≡ first_unmet (gives seen) row
deleter_first seen row missing own parent provider dependency property deleter =
    option_or-passed (own_lack seen row) (after_own seen row) missing own
    (option_or-passed (parent_lack seen row) (after_parent seen row) missing parent
    (option_or-passed (provider_lack seen row) (after_provider seen row) missing provider
    (option_or-passed (lacking_in seen row.dependencies) (after_dependencies seen row) missing dependency
    (option_or-passed (property_lack seen row) (deleter_lack seen row) missing property deleter))))
    ∙ sym (first_unmet-parts seen row)

pub IfOk_along : {X E : Type 0} (r : Result X E) (P Q : X → Type 0) → ((x : X) → P x → Q x) → IfOk r P → IfOk r Q
IfOk_along (Ok x) P Q step h = step x h
IfOk_along (Err e) P Q step h = tt

not_step : (p old before : Bool) → not old ≡ not before → not (p || old) ≡ not (before || p)
not_step true old true h = refl
not_step true old false h = refl
not_step false old true h = h
not_step false old false h = h

or_step : (p old before : Bool) → old ≡ before → (p || old) ≡ (before || p)
or_step true old true h = refl
or_step true old false h = refl
or_step false old true h = h
or_step false old false h = h

-- whether a row among one more passes a test
one_more : (p : Entry → Bool) (rows : List Entry) (at : ℕ) (row : Entry) → at < length rows → row ≡ get_or rows at row → (list_any p (take at rows) || p row) ≡ list_any p (take (at + 1) rows)
one_more p rows at row inside is =
    ap (λ (r : Entry). list_any p (take at rows) || p r) is ∙ sym (list_any_more p rows at row inside)

-- an index of one more row gives what those rows give
pub gives-more : (old new : Seen) (rows : List Entry) (at : ℕ) (row : Entry) → HasOneMore old new row → at < length rows → row ≡ get_or rows at row → ((want : Missing) → gives old want ≡ is_met (take at rows) want) → (want : Missing) → gives new want ≡ is_met (take (at + 1) rows) want
gives-more old new rows at row h inside is same (Twice urn) =
    ap not (h.kept urn) ∙ not_step (keeps_urn urn row) (has_text old.kept urn) (list_any (keeps_urn urn) (take at rows)) (same (Twice urn))
    ∙ ap not (one_more (keeps_urn urn) rows at row inside is)
gives-more old new rows at row h inside is same (Parent urn) =
    h.urns urn ∙ or_step (has_urn urn row) (has_text old.urns urn) (list_any (has_urn urn) (take at rows)) (same (Parent urn))
    ∙ one_more (has_urn urn) rows at row inside is
gives-more old new rows at row h inside is same (Provider reference) =
    h.things reference ∙ or_step (is_provider reference row) (has_pair old.things reference.urn reference.id) (list_any (is_provider reference) (take at rows)) (same (Provider reference))
    ∙ one_more (is_provider reference) rows at row inside is
gives-more old new rows at row h inside is same (Dependency urn) =
    h.urns urn ∙ or_step (has_urn urn row) (has_text old.urns urn) (list_any (has_urn urn) (take at rows)) (same (Dependency urn))
    ∙ one_more (has_urn urn) rows at row inside is
gives-more old new rows at row h inside is same (DeletedWith urn) =
    h.urns urn ∙ or_step (has_urn urn row) (has_text old.urns urn) (list_any (has_urn urn) (take at rows)) (same (DeletedWith urn))
    ∙ one_more (has_urn urn) rows at row inside is

find-same : (met other : Missing → Bool) (list : List Missing) → ((want : Missing) → met want ≡ other want) → find (λ want. not (met want)) list ≡ find (λ want. not (other want)) list
find-same met other [] same = refl
find-same met other (want ∷ list) same =
    ap (λ (b : Bool). cond (not b) (Some want) (find (λ w. not (met w)) list)) (same want)
    ∙ ap (λ (o : Option Missing). cond (not (other want)) (Some want) o) (find-same met other list same)

-- what a row misses of the index, it misses of the rows before it
pub fault_at-seen : (seen : Seen) (rows : List Entry) (at : ℕ) (row : Entry) (missing : Option Missing) → at < length rows → row ≡ get_or rows at row → ((want : Missing) → gives seen want ≡ is_met (take at rows) want) → missing ≡ first_unmet (gives seen) row → fault_at rows at ≡ missing
unfolding first_unmet
fault_at-seen seen rows at row missing inside is same h =
    fault_at-row rows at row (slice_get_read rows (length rows) at row refl inside is)
    ∙ sym (h ∙ find-same (gives seen) (is_met (take at rows)) (wants row) same)
