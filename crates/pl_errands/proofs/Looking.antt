-- What is kept of operations to look them up, with one operation begun more and one answered.
use Rattle.std.proofs.Common.{◌≡◌, ◌<◌, ◌+◌, ℕ, zero, suc, Bool, true, false, ◌||◌, cond, if◌then◌else◌, List, [], ◌∷◌, ◌++◌, length, Option, Some, None, option_map, refl, sym, ap, subst, ◌∙◌, arith}
use Rattle.std.proofs.lemmas.Bool.Decides.{nat_tests}
use Rattle.std.proofs.lemmas.Iterator.Adapters.{position_from-zero}
use Rattle.std.proofs.lemmas.List.Folds.{find_at, list_any-append}
use Rattle.std.proofs.lemmas.Option.{same_Some}
use Rattle.std.specs.HashMap.{HashMap}
use Rattle.std.specs.List.{find, list_any, position, position_from, position_or_len, slice_get, slice_set}
use Rattle.std.specs.Option.{IfSome, is_some, option_and_then, option_or}
use Rattle.std.specs.Prelude.{nat_lt}
use Rattle.pl_lemmas.proofs.Lists.{any_mapped}
use Rattle.pl_lemmas.proofs.Numbers.{less_true}
use Rattle.pl_lemmas.proofs.Options.{neither, or_none}
use Rattle.pl_events.specs.declared.operation.Op.{Op}
use Rattle.pl_model.specs.declared.errand.Errand.{Errand}
use Rattle.pl_model.specs.Tickets.{same_op}
use Rattle.pl_errands.specs.declared.key.Key.{Key}
use Rattle.pl_errands.specs.declared.row.Replied.{Replied}
use Rattle.pl_errands.specs.declared.row.Row.{Row}
use Rattle.pl_errands.specs.declared.row.Standing.{Standing}
use Rattle.pl_errands.specs.declared.row.Standing.TheVariants as standing
use Rattle.pl_errands.specs.Index.{AgreeIndex, kept_of, only_before, place_in}
use Rattle.pl_errands.specs.SameOps.{ops_equal}
use Rattle.pl_errands.proofs.Lists.{map-set_same}

-- ---- places

place_more : (b t : Bool) (start more : ℕ) (later rest : Option ℕ) → later ≡ option_or rest (cond t (Some more) None)
    → cond b (Some start) later ≡ option_or (cond b (Some start) rest) (cond t (Some more) None)
place_more true t start more later rest e = refl
place_more false t start more later rest e = e

place_from : {X : Type 0} (test : X → Bool) (start : ℕ) (xs : List X) (y : X)
    → position_from test start (xs ++ y ∷ []) ≡ option_or (position_from test start xs) (cond (test y) (Some (start + length xs)) None)
place_from test start [] y = ap (λ (n : ℕ). cond (test y) (Some n) None) (omega arith)
place_from test start (x ∷ xs) y =
    place_more (test x) (test y) start (start + suc (length xs)) (position_from test (start + 1) (xs ++ y ∷ [])) (position_from test (start + 1) xs)
    (place_from test (start + 1) xs y ∙ ap (λ (n : ℕ). option_or (position_from test (start + 1) xs) (cond (test y) (Some n) None)) (omega arith))

-- the first place of a kind among elements with one more at their end
place_pushed : {X : Type 0} (test : X → Bool) (xs : List X) (y : X)
    → position test (xs ++ y ∷ []) ≡ option_or (position test xs) (cond (test y) (Some (length xs)) None)
place_pushed test xs y =
    position_from-zero test (xs ++ y ∷ []) ∙ place_from test 0 xs y
    ∙ ap (λ (n : ℕ). option_or (position_from test 0 xs) (cond (test y) (Some n) None)) (omega arith)
    ∙ ap (λ (o : Option ℕ). option_or o (cond (test y) (Some (length xs)) None)) (sym (position_from-zero test xs))

placed_step : {X : Type 0} (b : Bool) (xs : List X) (at k : ℕ) → cond b (Some at) None ≡ Some k → slice_get xs at ≡ slice_get xs k
placed_step true xs at k e = ap (slice_get xs) (same_Some at k e)
placed_step false xs at k e = absurd (cc)

-- the first element of a kind is what stands at its place
pub found_placed : {X : Type 0} (test : X → Bool) (xs : List X) (k : ℕ) → position test xs ≡ Some k → find test xs ≡ slice_get xs k
found_placed test xs k at =
    find_at test xs ∙ placed_step (nat_lt (position_or_len test xs) (length xs)) xs (position_or_len test xs) k at

missing_step : {X : Type 0} (b : Bool) (start : ℕ) (later : Option ℕ) (x : X) (rest : Option X) → cond b (Some start) later ≡ None → (later ≡ None → rest ≡ None) → cond b (Some x) rest ≡ None
missing_step true start later x rest e h = absurd (cc)
missing_step false start later x rest e h = h e

missing_from : {X : Type 0} (test : X → Bool) (start : ℕ) (xs : List X) → position_from test start xs ≡ None → find test xs ≡ None
missing_from test start [] e = refl
missing_from test start (x ∷ xs) e =
    missing_step (test x) start (position_from test (start + 1) xs) x (find test xs) e (missing_from test (start + 1) xs)

-- where no place is one of a kind, no element is
pub missing_placed : {X : Type 0} (test : X → Bool) (xs : List X) → position test xs ≡ None → find test xs ≡ None
missing_placed test xs none = missing_from test 0 xs (sym (position_from-zero test xs) ∙ none)

-- an element that passes is one of some
pub any_there : {X : Type 0} (test : X → Bool) (xs : List X) (t : ℕ) (x : X) → slice_get xs t ≡ Some x → test x ≡ true → list_any test xs ≡ true
any_there test [] t x is holds = absurd (let none : None ≡ Some x = is in cc)
any_there test (z ∷ xs) zero x is holds = ap (λ (b : Bool). b || list_any test xs) (ap test (same_Some z x is) ∙ holds)
any_there test (z ∷ xs) (suc t) x is holds = ap (λ (b : Bool). test z || b) (any_there test xs t x is holds) ∙ either (test z)
  where
    either : (b : Bool) → (b || true) ≡ true
    either true = refl
    either false = refl

-- ---- what is kept of one operation

begun_some : (kept : Option (Option ℕ)) (b : Bool) → is_some (option_or kept (cond b (Some None) None)) ≡ (is_some kept || (b || false))
begun_some (Some first) b = refl
begun_some None true = refl
begun_some None false = refl

begun_first : (kept : Option (Option ℕ)) (b : Bool) → option_and_then (λ first. first) (option_or kept (cond b (Some None) None)) ≡ option_and_then (λ first. first) kept
begun_first (Some first) b = refl
begun_first None true = refl
begun_first None false = refl

there_same : (kept : Option (Option ℕ)) (b : Bool) → (b ≡ true → is_some kept ≡ true) → kept ≡ option_or kept (cond b (Some None) None)
there_same (Some first) b h = refl
there_same None true h = absurd (let e : false ≡ true = h refl in cc)
there_same None false h = refl

answered_some : (change : Option ℕ → Option ℕ) (kept : Option (Option ℕ)) → is_some (option_map change kept) ≡ is_some kept
answered_some change (Some first) = refl
answered_some change None = refl

answered_first : (kept : Option (Option ℕ)) (b : Bool) (n : ℕ) → (b ≡ true → is_some kept ≡ true)
    → option_and_then (λ first. first) (option_map (λ first. cond b (option_or first (Some n)) first) kept)
    ≡ option_or (option_and_then (λ first. first) kept) (cond b (Some n) None)
answered_first (Some first) true n h = refl
answered_first (Some first) false n h = sym (or_none first)
answered_first None true n h = absurd (let e : false ≡ true = h refl in cc)
answered_first None false n h = refl

-- the first element of a kind stands before the end
placed_within : {X : Type 0} (test : X → Bool) (xs : List X) → IfSome (position test xs) (λ k. k < length xs)
placed_within test xs = by (nat_lt (position_or_len test xs) (length xs)) refl
  where
    by : (b : Bool) → nat_lt (position_or_len test xs) (length xs) ≡ b
        → IfSome (cond b (Some (position_or_len test xs)) None) (λ k. k < length xs)
    by true is = let h : nat_lt (position_or_len test xs) (length xs) ≡ true = is in grind (arith, nat_tests)
    by false is = tt

before_end : (first : Option ℕ) (n : ℕ) → IfSome first (λ k. k < n) → only_before n (option_or first (Some n)) ≡ first
before_end None n within =
    let past : nat_lt n n ≡ false = grind (arith, nat_tests) in
    ap (λ (b : Bool). if b then Some n else None) past
before_end (Some k) n within = ap (λ (b : Bool). if b then Some k else None) (less_true k n within)

dropped_first : (kept : Option (Option ℕ)) (b : Bool) (n : ℕ) (rest : Option ℕ) → IfSome rest (λ k. k < n)
    → option_and_then (λ first. first) kept ≡ option_or rest (cond b (Some n) None)
    → option_and_then (λ first. first) (option_map (λ first. cond b (only_before n first) first) kept) ≡ rest
dropped_first None b n rest within e = sym ((neither rest (cond b (Some n) None) (sym e)).0)
dropped_first (Some first) true n rest within e = ap (only_before n) e ∙ before_end rest n within
dropped_first (Some first) false n rest within e = e ∙ or_none rest

-- ---- what is kept of all of them

-- an operation that is begun again
pub begun_again : {S : Type 0} (index : HashMap Key (Option ℕ) S) (about : Op) → is_some (kept_of index about) ≡ true
    → (other : Op) → kept_of index other ≡ option_or (kept_of index other) (cond (same_op about other) (Some None) None)
begun_again index about there other =
    there_same (kept_of index other) (same_op about other)
    (λ same. ap (λ (it : Op). is_some (kept_of index it)) (sym (ops_equal about other same)) ∙ there)

module _ {S : Type 0} (index new : HashMap Key (Option ℕ) S) (rows : List Row) (replies : List Replied) (agree : AgreeIndex index rows replies) where
  pub same_index : ((about : Op) → kept_of new about ≡ kept_of index about) → AgreeIndex new rows replies
  same_index same = record {
    begun = λ about. ap is_some (same about) ∙ agree.begun about;
    first = λ about. ap (option_and_then (λ place. place)) (same about) ∙ agree.first about;
  }

  pub begun_index : (row : Row)
      → ((about : Op) → kept_of new about ≡ option_or (kept_of index about) (cond (same_op row.errand.op about) (Some None) None))
      → AgreeIndex new (rows ++ row ∷ []) replies
  begun_index row kept = record {
    begun = λ about.
        ap is_some (kept about) ∙ begun_some (kept_of index about) (same_op row.errand.op about)
        ∙ ap (λ (b : Bool). b || (same_op row.errand.op about || false)) (agree.begun about)
        ∙ sym (list_any-append (λ (one : Row). same_op one.errand.op about) rows (row ∷ []));
    first = λ about.
        ap (option_and_then (λ place. place)) (kept about) ∙ begun_first (kept_of index about) (same_op row.errand.op about)
        ∙ agree.first about;
  }

  pub answered_index : (one : Replied) (ticket : ℕ) (row : Row) → slice_get rows ticket ≡ Some row → row.errand.op ≡ one.closed.op
      → ((about : Op) → kept_of new about
      ≡ option_map (λ first. cond (same_op one.closed.op about) (option_or first (Some (length replies))) first) (kept_of index about))
      → AgreeIndex new rows (replies ++ one ∷ [])
  answered_index one ticket row was same kept = record {
    begun = λ about.
        ap is_some (kept about)
        ∙ answered_some (λ first. cond (same_op one.closed.op about) (option_or first (Some (length replies))) first) (kept_of index about)
        ∙ agree.begun about;
    first = λ about.
        ap (option_and_then (λ place. place)) (kept about)
        ∙ answered_first (kept_of index about) (same_op one.closed.op about) (length replies)
        (λ is. agree.begun about ∙ any_there (λ (other : Row). same_op other.errand.op about) rows ticket row was (ap (λ (it : Op). same_op it about) same ∙ is))
        ∙ ap (λ (o : Option ℕ). option_or o (cond (same_op one.closed.op about) (Some (length replies)) None)) (agree.first about)
        ∙ sym (place_pushed (λ (other : Replied). same_op other.closed.op about) replies one);
  }

same_mapped : {X : Type 0} (o : Option X) → o ≡ option_map (λ x. x) o
same_mapped None = refl
same_mapped (Some x) = refl

-- one operation's first reply is dropped, and the others stay
pub dropped_kept : {S : Type 0} (index new : HashMap Key (Option ℕ) S) (about : Op) (place : ℕ) (first : Option ℕ) → Some first ≡ kept_of index about
    → ((other : Op) → kept_of new other ≡ cond (same_op about other) (Some (only_before place first)) (kept_of index other))
    → (other : Op) → kept_of new other ≡ option_map (λ it. cond (same_op about other) (only_before place it) it) (kept_of index other)
dropped_kept index new about place first was written other = written other ∙ by (same_op about other) refl
  where
    by : (b : Bool) → same_op about other ≡ b
        → cond b (Some (only_before place first)) (kept_of index other) ≡ option_map (λ it. cond b (only_before place it) it) (kept_of index other)
    by true same = ap (option_map (only_before place)) (was ∙ ap (kept_of index) (ops_equal about other same))
    by false apart = same_mapped (kept_of index other)

-- an operation whose newest reply is taken back
pub dropped_index : {S : Type 0} (index new : HashMap Key (Option ℕ) S) (rows : List Row) (replies : List Replied) (one : Replied)
    → AgreeIndex index rows (replies ++ one ∷ [])
    → ((about : Op) → kept_of new about
    ≡ option_map (λ first. cond (same_op one.closed.op about) (only_before (length replies) first) first) (kept_of index about))
    → AgreeIndex new rows replies
dropped_index index new rows replies one agree kept = record {
  begun = λ about.
      ap is_some (kept about)
      ∙ answered_some (λ first. cond (same_op one.closed.op about) (only_before (length replies) first) first) (kept_of index about)
      ∙ agree.begun about;
  first = λ about.
      ap (option_and_then (λ place. place)) (kept about)
      ∙ dropped_first (kept_of index about) (same_op one.closed.op about) (length replies)
      (place_in replies about) (placed_within (λ (other : Replied). same_op other.closed.op about) replies)
      (agree.first about ∙ place_pushed (λ (other : Replied). same_op other.closed.op about) replies one);
}

-- rows of the same operations
pub set_index_of : {S : Type 0} (index : HashMap Key (Option ℕ) S) (rows : List Row) (replies : List Replied) (ticket : ℕ) (was row : Row)
    → slice_get rows ticket ≡ Some was → row.errand ≡ was.errand → AgreeIndex index rows replies → AgreeIndex index (slice_set rows ticket row) replies
set_index_of index rows replies ticket was row is same agree = record {
  begun = λ about. agree.begun about ∙ sym (any_set about);
  first = agree.first;
}
  where
    any_set : (about : Op) → list_any (λ one. same_op one.errand.op about) (slice_set rows ticket row) ≡ list_any (λ one. same_op one.errand.op about) rows
    any_set about =
        sym (any_mapped (λ (one : Errand). same_op one.op about) (λ (one : Row). one.errand) (slice_set rows ticket row))
        ∙ ap (list_any (λ (one : Errand). same_op one.op about)) (map-set_same (λ (one : Row). one.errand) rows ticket was row is same)
        ∙ any_mapped (λ (one : Errand). same_op one.op about) (λ (one : Row). one.errand) rows

pub set_index : {S : Type 0} (index : HashMap Key (Option ℕ) S) (rows : List Row) (replies : List Replied) (ticket : ℕ) (errand : Errand) (became : Standing)
    → slice_get rows ticket ≡ Some (record { errand = errand; standing = standing.Open }) → AgreeIndex index rows replies
    → AgreeIndex index (slice_set rows ticket (record { errand = errand; standing = became })) replies
set_index index rows replies ticket errand became was agree =
    set_index_of index rows replies ticket (record { errand = errand; standing = standing.Open }) (record { errand = errand; standing = became })
    was refl agree

pub index_of_same : {S : Type 0} (index : HashMap Key (Option ℕ) S) {rows others : List Row} {replies more : List Replied} → rows ≡ others → replies ≡ more
    → AgreeIndex index rows replies → AgreeIndex index others more
index_of_same index same also agree = subst (λ (t : List Row × List Replied). AgreeIndex index t.0 t.1) (λ i. (same i, also i)) agree

pub get_set_here : {X : Type 0} (xs : List X) (t : ℕ) (was y : X) → slice_get xs t ≡ Some was → slice_get (slice_set xs t y) t ≡ Some y
get_set_here [] t was y is = absurd (let none : None ≡ Some was = is in cc)
get_set_here (x ∷ xs) zero was y is = refl
get_set_here (x ∷ xs) (suc t) was y is = get_set_here xs t was y is
