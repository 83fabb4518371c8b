-- The chain of a row: which rows it has, and who may claim them.
use Rattle.std.proofs.Common.{◌≡◌, ℕ, zero, suc, ◌<◌, ◌≤◌, ◌==◌, Bool, true, false, ◌||◌, if◌then◌else◌, List, [], ◌∷◌, ◌++◌, length, Option, Some, None, refl, sym, ◌∙◌, ap, subst, inl, inr, ◌⊎◌, arith, eq-or-lt_of_le}
use Rattle.std.proofs.lemmas.Bool.{cases_lt}
use Rattle.std.proofs.lemmas.List.Folds.{list_any-append}
use Rattle.std.specs.List.{list_any}
use Rattle.std.proofs.Math.Bool.{or-true}
use Rattle.std.proofs.lemmas.Option.{same_Some}
use Rattle.pl_lemmas.proofs.Numbers.{same_number, equal_numbers}
use Rattle.pl_state.specs.Chain.{chain_among, chain_of, chain_with, joins, refers_to}
use Rattle.pl_state.specs.declared.entry.Entry.{Entry}
use Rattle.pl_events.specs.declared.event.Event.{Event}
use Rattle.pl_decide.specs.Limited.{is_delete_first}
use Rattle.pl_model.specs.declared.decided.Decided.{Decided}
use Rattle.pl_model.specs.declared.fixed.Fixed.{Fixed}
use Rattle.pl_model.specs.Run.{rows_of}
use Rattle.pl_lemmas.specs.Words.{has_number, is_row, numbered}
use Rattle.pl_lemmas.proofs.Lists.{numbered_passes}
use Rattle.pl_lemmas.proofs.Options.{row_is}
use Rattle.pl_model.specs.Claims.{chain_of_claim, chain_of_goal, is_chained}
use Rattle.pl_model.specs.History.{known_of}
use Rattle.pl_model.specs.Known.{decided_goal}
use Rattle.pl_model_stays.proofs.Goals.Claiming.{claims-allowed, numbered_behind, was-made}
use Rattle.pl_model_stays.proofs.Lists.Growing.{Grown}
use Rattle.pl_model_stays.proofs.Work.Waiting.{refers_above}
use Rattle.pl_model_laws.specs.Closure.{IsHandedOn}
use Rattle.pl_model_laws.proofs.Rows.Removing.{grown_behind}

-- ---- lists of numbers

-- what one of the numbers passes, some pass
has_passes : (test : ℕ → Bool) (numbers : List ℕ) (n : ℕ) → has_number numbers n ≡ true → test n ≡ true → list_any test numbers ≡ true
has_passes test [] n has passes = absurd (let e : false ≡ true = has in cc)
has_passes test (first ∷ others) n has passes = by (first == n) refl has (has_passes test others n)
  where
    by : (b : Bool) → (first == n) ≡ b → (b || has_number others n) ≡ true
        → (has_number others n ≡ true → test n ≡ true → list_any test others ≡ true)
        → (test first || list_any test others) ≡ true
    by true is has rest = ap (λ (b : Bool). b || list_any test others) (ap test (equal_numbers first n is) ∙ passes)
    by false is has rest = ap (λ (b : Bool). test first || b) (rest has passes) ∙ or-true (test first)

-- what some pass, one of the numbers passes
passing_has : (test : ℕ → Bool) (numbers : List ℕ) → list_any test numbers ≡ true → (n : ℕ) × (has_number numbers n ≡ true) × (test n ≡ true)
passing_has test [] h = absurd (let e : false ≡ true = h in cc)
passing_has test (first ∷ others) h = by (test first) refl h (passing_has test others)
  where
    by : (b : Bool) → test first ≡ b → (b || list_any test others) ≡ true
        → (list_any test others ≡ true → (n : ℕ) × (has_number others n ≡ true) × (test n ≡ true))
        → (n : ℕ) × (has_number (first ∷ others) n ≡ true) × (test n ≡ true)
    by true is h rest = (first, ap (λ (b : Bool). b || has_number others first) (same_number first), is)
    by false is h rest =
        let found = rest h in
        (found.0, ap (λ (b : Bool). (first == found.0) || b) found.1 ∙ or-true (first == found.0), found.2)

-- a number that is put at the end is there, or it was there before
last_or_before : (numbers : List ℕ) (last n : ℕ) → has_number (numbers ++ last ∷ []) n ≡ true → (last ≡ n) ⊎ (has_number numbers n ≡ true)
last_or_before numbers last n h =
    by (has_number numbers n) (last == n) refl (sym (list_any-append (λ (other : ℕ). other == n) numbers (last ∷ [])) ∙ h)
  where
    by : (old new : Bool) → (last == n) ≡ new → (old || (new || false)) ≡ true → (last ≡ n) ⊎ (old ≡ true)
    by true new is h = inr refl
    by false true is h = inl (equal_numbers last n is)
    by false false is h = absurd (let e : false ≡ true = h in cc)

-- ---- chains

module _ (rows : List Entry) (at : ℕ) where
  -- with a row more a chain has what it had
  with_more : (chain : List ℕ) (place n : ℕ) → has_number chain n ≡ true → has_number (chain_with rows at chain place) n ≡ true
  with_more chain place n h = by (joins rows at chain place)
    where
      by : (b : Bool) → has_number (if b then chain ++ place ∷ [] else chain) n ≡ true
      by true =
          list_any-append (λ (other : ℕ). other == n) chain (place ∷ [])
          ∙ ap (λ (b : Bool). b || has_number (place ∷ []) n) h
      by false = h

  -- and the row, if that joins it
  with_joined : (chain : List ℕ) (place : ℕ) → joins rows at chain place ≡ true → has_number (chain_with rows at chain place) place ≡ true
  with_joined chain place h =
      ap (λ (b : Bool). has_number (if b then chain ++ place ∷ [] else chain) place) h
      ∙ list_any-append (λ (other : ℕ). other == place) chain (place ∷ [])
      ∙ ap (λ (b : Bool). has_number chain place || (b || false)) (same_number place)
      ∙ or-true (has_number chain place)

  -- and nothing else
  with_parts : (chain : List ℕ) (place n : ℕ) → has_number (chain_with rows at chain place) n ≡ true
      → ((place ≡ n) × (joins rows at chain place ≡ true)) ⊎ (has_number chain n ≡ true)
  with_parts chain place n h = by (joins rows at chain place) refl h
    where
      put : joins rows at chain place ≡ true → (place ≡ n) ⊎ (has_number chain n ≡ true)
          → ((place ≡ n) × (joins rows at chain place ≡ true)) ⊎ (has_number chain n ≡ true)
      put is (inl same) = inl (same, is)
      put is (inr before) = inr before

      by : (b : Bool) → joins rows at chain place ≡ b → has_number (if b then chain ++ place ∷ [] else chain) n ≡ true
          → ((place ≡ n) × (joins rows at chain place ≡ true)) ⊎ (has_number chain n ≡ true)
      by true is h = put is (last_or_before chain place n h)
      by false is h = inr h

  -- the chain among the first rows
  abbrev chain_to : ℕ → List ℕ
  chain_to count = chain_among rows at count

  -- a place is that of the row, or is in a chain
  abbrev IsIn : List ℕ → ℕ → Type 0
  IsIn chain place = (place ≡ at) ⊎ (has_number chain place ≡ true)

  -- a row that refers to the row, or to one of its chain, is in the chain
  among_closed : (count later earlier : ℕ) → refers_to rows later earlier ≡ true → later < count
      → IsIn (chain_to count) earlier → has_number (chain_to count) later ≡ true
  among_closed zero later earlier refers low h = absurd (omega arith)
  among_closed (suc count) later earlier refers low h =
      let most : later ≤ count = omega arith in
      by (eq-or-lt_of_le most) (before h) (among_closed count later earlier refers)
    where
      last : ((count ≡ earlier) × (joins rows at (chain_to count) count ≡ true)) ⊎ (has_number (chain_to count) earlier ≡ true)
          → has_number (chain_to count) earlier ≡ true
      last (inl end) =
          let same : count ≡ earlier = end.0 in
          let less : earlier < later = refers_above rows later earlier refers in
          absurd (omega arith)
      last (inr has) = has

      before : IsIn (chain_with rows at (chain_to count) count) earlier
          → IsIn (chain_to count) earlier
      before (inl same) = inl same
      before (inr has) = inr (last (with_parts (chain_to count) count earlier has))

      joining : IsIn (chain_to count) earlier → joins rows at (chain_to count) later ≡ true
      joining (inl same) =
          ap (λ (b : Bool). b || list_any (refers_to rows later) (chain_to count))
          (subst (λ (n : ℕ). refers_to rows later n ≡ true) same refers)
      joining (inr has) =
          ap (λ (b : Bool). refers_to rows later at || b) (has_passes (refers_to rows later) (chain_to count) earlier has refers)
          ∙ or-true (refers_to rows later at)

      by : (later ≡ count) ⊎ (later < count) → IsIn (chain_to count) earlier
          → (later < count → IsIn (chain_to count) earlier → has_number (chain_to count) later ≡ true)
          → has_number (chain_with rows at (chain_to count) count) later ≡ true
      by (inl same) h rest =
          subst (λ (n : ℕ). has_number (chain_with rows at (chain_to count) n) later ≡ true) same
          (with_joined (chain_to count) later (joining h))
      by (inr less) h rest = with_more (chain_to count) count later (rest less h)

  -- the rows of a chain stand behind its row, among those that it was sought among
  among_within : (count n : ℕ) → has_number (chain_to count) n ≡ true → (at < n) × (n < count)
  among_within zero n h = absurd (let e : false ≡ true = h in cc)
  among_within (suc count) n h = by (with_parts (chain_to count) count n h) (among_within count)
    where
      behind : (b : Bool) → refers_to rows count at ≡ b → (b || list_any (refers_to rows count) (chain_to count)) ≡ true
          → ((k : ℕ) → has_number (chain_to count) k ≡ true → (at < k) × (k < count)) → at < count
      behind true is h rest = refers_above rows count at is
      behind false is h rest =
          let found = passing_has (refers_to rows count) (chain_to count) h in
          let more : (at < found.0) × (found.0 < count) = rest found.0 found.1 in
          let far : at < found.0 = more.0 in
          let near : found.0 < count = more.1 in
          omega arith

      by : ((count ≡ n) × (joins rows at (chain_to count) count ≡ true)) ⊎ (has_number (chain_to count) n ≡ true)
          → ((k : ℕ) → has_number (chain_to count) k ≡ true → (at < k) × (k < count)) → (at < n) × (n < suc count)
      by (inl end) rest =
          let same : count ≡ n = end.0 in
          let far : at < count = behind (refers_to rows count at) refl end.1 rest in
          (omega arith, omega arith)
      by (inr has) rest =
          let more : (at < n) × (n < count) = rest n has in
          let far : at < n = more.0 in
          let near : n < count = more.1 in
          (far, omega arith)

-- a row that refers to a row, or to one of its chain, is in its chain
pub chain-closed : (rows : List Entry) (at later earlier : ℕ) → refers_to rows later earlier ≡ true → later < length rows
    → (earlier ≡ at) ⊎ (has_number (chain_of rows at) earlier ≡ true) → has_number (chain_of rows at) later ≡ true
chain-closed rows at later earlier = among_closed rows at (length rows) later earlier

-- the chain has nothing but what is handed on from the row
module _ (rows : List Entry) (at : ℕ) (property : ℕ → Bool) (handed : IsHandedOn rows at property) where
  joined_has : (chain : List ℕ) (place : ℕ) → ((row : ℕ) → has_number chain row ≡ true → property row ≡ true)
      → joins rows at chain place ≡ true → property place ≡ true
  joined_has chain place each h = by (refers_to rows place at) refl h
    where
      by : (b : Bool) → refers_to rows place at ≡ b → (b || list_any (refers_to rows place) chain) ≡ true → property place ≡ true
      by true is h = handed.direct place is
      by false is h =
          let found = passing_has (refers_to rows place) chain h in
          handed.through place found.0 found.2 (each found.0 found.1)

  among_has : (count row : ℕ) → has_number (chain_among rows at count) row ≡ true → property row ≡ true
  among_has zero row h = absurd (let e : false ≡ true = h in cc)
  among_has (suc count) row h = by (with_parts rows at (chain_among rows at count) count row h) (among_has count)
    where
      by : ((count ≡ row) × (joins rows at (chain_among rows at count) count ≡ true)) ⊎ (has_number (chain_among rows at count) row ≡ true)
          → ((place : ℕ) → has_number (chain_among rows at count) place ≡ true → property place ≡ true) → property row ≡ true
      by (inl here) each = subst (λ (place : ℕ). property place ≡ true) here.0 (joined_has (chain_among rows at count) count each here.1)
      by (inr before) each = each row before

  pub chain-least : (row : ℕ) → has_number (chain_of rows at) row ≡ true → property row ≡ true
  chain-least row h = among_has (length rows) row h

-- the rows of a chain are rows, and stand behind its own
pub chain-within : (rows : List Entry) (at row : ℕ) → has_number (chain_of rows at) row ≡ true → (at < row) × (row < length rows)
chain-within rows at row = among_within rows at (length rows) row

-- ---- the chain of a goal

-- a goal that has a chain is deleted first, and the chain is that of its claim
pub chain-of-claim : (run : Fixed) (one : Decided) (row : ℕ) → has_number (chain_of_goal run one) row ≡ true
    → (is_delete_first one.decision ≡ true) × (own : ℕ) × (one.claim ≡ Some own) × (has_number (chain_of (rows_of run) own) row ≡ true)
chain-of-claim run one row h = by (is_delete_first one.decision) one.claim h
  where
    by : (first : Bool) (claim : Option ℕ) → has_number (if first then chain_of_claim run claim else []) row ≡ true
        → (first ≡ true) × (own : ℕ) × (claim ≡ Some own) × (has_number (chain_of (rows_of run) own) row ≡ true)
    by true (Some own) h = (refl, own, refl, h)
    by true None h = absurd (let e : false ≡ true = h in cc)
    by false claim h = absurd (let e : false ≡ true = h in cc)

-- a goal does not claim a row of its own chain
not_own : (run : Fixed) (one : Decided) (row : ℕ) → has_number (chain_of_goal run one) row ≡ true → is_row one.claim row ≡ true → ⊥
not_own run one row chained claims =
    let parts = chain-of-claim run one row chained in
    let same : parts.1 ≡ row = same_Some parts.1 row (sym parts.2 ∙ row_is one.claim row claims) in
    let within : (parts.1 < row) × (row < length (rows_of run)) = chain-within (rows_of run) parts.1 row parts.3 in
    let less : parts.1 < row = within.0 in
    absurd (omega arith)

-- a row of a goal's chain that a goal claims, an earlier goal claims
pub chained-kept : (run : Fixed) (history : List Event) (n m row : ℕ) (one before : Decided)
    → decided_goal (known_of run history) n ≡ Some one → has_number (chain_of_goal run one) row ≡ true
    → decided_goal (known_of run history) m ≡ Some before → is_row before.claim row ≡ true → m < n
chained-kept run history n m row one before decided chained other claims = by (cases_lt m n)
  where
    later : (n ≡ m) ⊎ (n < m) → ⊥
    later (inl same) =
        let ones : one ≡ before =
        same_Some one before (sym decided ∙ ap (λ (k : ℕ). decided_goal (known_of run history) k) same ∙ other) in
        not_own run one row chained (ap (λ (it : Decided). is_row it.claim row) ones ∙ claims)
    later (inr less) =
        let made = was-made run history m before other in
        let count : length made.before ≡ m = made.count in
        let older : Grown made.before (known_of run history).decided =
        grown_behind before made.before (known_of run history).decided made.behind in
        let there : numbered made.before n ≡ Some one =
        numbered_behind made.before (known_of run history).decided n one older decided (omega arith) in
        let some : is_chained run made.before row ≡ true =
        numbered_passes (λ (it : Decided). has_number (chain_of_goal run it) row) made.before n one there chained in
        let e : true ≡ false = sym some ∙ (claims-allowed run history m before row made claims).unchained in
        cc

    by : (m < n) ⊎ (n ≤ m) → m < n
    by (inl less) = less
    by (inr most) = absurd (later (eq-or-lt_of_le most))
