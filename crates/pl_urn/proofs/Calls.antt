-- What the calls of std's text functions give, in the words of the grammar.
use Rattle.std.proofs.Common.{◌≡◌, ◌≢◌, ◌<◌, ◌≤◌, ◌+◌, ◌-◌, ℕ, zero, suc, Bool, true, false, not, List, [], ◌∷◌, ◌++◌, length, length-drop, drop, get_or, refl, sym, ap, ◌∙◌, subst, arith, lit<, eqb, None, MatchBool, IsTrue}
use Rattle.std.proofs.lemmas.Bool.{or_left, or_right, or_from, ne_eqb, eq-eqb, eqb-false, false≢true}
use Rattle.std.proofs.lemmas.List.{get_or-drop, get_or_default}
use Rattle.std.proofs.lemmas.List.Prefix.{end_rest}
use Rattle.std.proofs.lemmas.List.Sums.{suffix_len_is}
use Rattle.std.proofs.lemmas.Str.{encode_ascii}
use Rattle.std.proofs.lemmas.Str.Pattern.{contains_char, ends_char, ends_text, starts_text, NoCharPasses-char}
use Rattle.std.specs.List.{list_any, ends_with, starts_with, after_last, suffix_len}
use Rattle.std.specs.Str.{IsCharBoundary}
use Rattle.std.specs.Str.Pattern.{FindsChar, RFindsChar, FindsCharSuffix, FindsText, FindsTextPrefix, HasMatch, HasSuffixMatch, SplitsAroundMatch, StripsPrefix}
use Rattle.pl_urn.specs.Cut.{colon, cut, has_cut}
use Rattle.pl_urn.specs.Grammar.{is_dollar, is_empty, IsScope}
use Rattle.pl_urn.proofs.Cuts.{IsCut, cut_found, cut_missing}

-- `contains` at `::`
pub contains_cut : (r : Bool) (bs : List ℕ) → MatchBool r (HasMatch (FindsText cut) bs) (FindsText cut bs None) → r ≡ has_cut bs
contains_cut true bs h = sym (cut_found bs h.0 (drop h.1 bs) h.2.0 h.2.1.split).found
contains_cut false bs h = sym (cut_missing bs h).0

-- `split_once` at `::`
pub split_found : (bs front back : List ℕ) → SplitsAroundMatch (FindsText cut) bs front back → IsCut bs front back
split_found bs front back h = rw (h.3, h.4) (cut_found bs h.0 (drop h.1 bs) h.2.0 h.2.1.split)

-- a byte that stands somewhere
list_any-at : (c : ℕ) (bs : List ℕ) (k : ℕ) → k < length bs → get_or bs k 0 ≡ c → list_any (λ b. eqb b c) bs ≡ true
list_any-at c [] k l e = absurd (omega arith)
list_any-at c (b ∷ bs) zero l e = or_left _ _ (eq-eqb b c e)
list_any-at c (b ∷ bs) (suc k) l e = or_right _ _ (list_any-at c bs k (omega arith) e)

list_any_absent : (c : ℕ) (bs : List ℕ) → ((k : ℕ) → k < length bs → get_or bs k 0 ≢ c) → list_any (λ b. eqb b c) bs ≡ false
list_any_absent c [] none = refl
list_any_absent c (b ∷ bs) none =
    or_from _ _ (ne_eqb b c (none 0 (omega arith))) (list_any_absent c bs (λ k l. none (suc k) (omega arith)))

-- `contains` at an ASCII character
pub contains_byte : (c : ℕ) (r : Bool) (bs : List ℕ) → c < 128 → MatchBool r (HasMatch (FindsChar c) bs) (FindsChar c bs None) → r ≡ list_any (λ b. eqb b c) bs
contains_byte c true bs small h =
    let at = (contains_char c bs true h small).0 refl in sym (list_any-at c bs at.0 at.1 at.2)
contains_byte c false bs small h =
    sym (list_any_absent c bs (λ k l e. false≢true ((contains_char c bs false h small).1 k l e)))

-- `ends_with` at `:`
pub ends_colon : (r : Bool) (bs : List ℕ) → MatchBool r (HasSuffixMatch (FindsCharSuffix colon) bs) (FindsCharSuffix colon bs None) → r ≡ ends_with eqb bs (colon ∷ [])
ends_colon true bs h =
    ends_text true (colon ∷ []) bs (1, (refl, (ends_char colon bs true h (lit< tt)).0 refl, h.1.2), omega arith, h.1.2)
ends_colon false bs h =
    ends_text false (colon ∷ []) bs (λ front e. h front (e ∙ ap (λ (l : List ℕ). front ++ l) (sym (encode_ascii colon (lit< tt)))))

-- what ends in `:` passes the test
pub ends-front : (bs front : List ℕ) → bs ≡ front ++ colon ∷ [] → ends_with eqb bs (colon ∷ []) ≡ true
ends-front bs front e = rw (end_rest bs (colon ∷ []) front e) refl

-- `rsplit_once` at `$`
pub last_found : (bs front back : List ℕ) → SplitsAroundMatch (RFindsChar 36) bs front back → back ≡ after_last is_dollar bs
last_found bs front back h =
    let at = h.2.1 in
    let ends : h.1 ≡ h.0 + 1 = at.ends in
    let fits : h.1 ≤ length bs = omega arith in
    let byte : get_or bs h.0 0 ≡ 36 = at.byte (lit< tt) in
    let later : (k : ℕ) → h.1 ≤ k → k < length bs → not (eqb (get_or bs k 0) 36) ≡ true =
    λ k low high. ap not (ne_eqb _ 36 (λ e. NoCharPasses-char 36 (drop h.1 bs) (k - h.1) h.2.0 (lit< tt) (omega (arith, length-drop h.1 bs))
    (get_or-drop h.1 bs (k - h.1) 0 ∙ ap (λ (n : ℕ). get_or bs n 0) (omega arith) ∙ e))) in
    let here : 0 < h.1 → not (eqb (get_or bs (h.1 - 1) 0) 36) ≡ false =
    λ _. ap not (eq-eqb _ 36 (ap (λ (n : ℕ). get_or bs n 0) (omega arith) ∙ byte)) in
    let len : suffix_len (λ b. not (is_dollar b)) bs ≡ length bs - h.1 = suffix_len_is (λ b. not (is_dollar b)) bs h.1 0 fits later here in
    let place : h.1 ≡ length bs - suffix_len (λ b. not (is_dollar b)) bs = omega (arith, len) in
    h.4 ∙ ap (λ (n : ℕ). drop n bs) place

pub last_missing : (bs : List ℕ) → RFindsChar 36 bs None → bs ≡ after_last is_dollar bs
last_missing bs h =
    let later : (k : ℕ) → 0 ≤ k → k < length bs → not (eqb (get_or bs k 0) 36) ≡ true =
    λ k low high. ap not (ne_eqb _ 36 (NoCharPasses-char 36 bs k h (lit< tt) high)) in
    let len : suffix_len (λ b. not (is_dollar b)) bs ≡ length bs - 0 = suffix_len_is (λ b. not (is_dollar b)) bs 0 0 (omega arith) later (λ none. absurd (omega arith)) in
    let place : 0 ≡ length bs - suffix_len (λ b. not (is_dollar b)) bs = omega (arith, len) in
    ap (λ (n : ℕ). drop n bs) place

-- `strip_prefix` at a text
pub strip_found : (n bs rest : List ℕ) → StripsPrefix (FindsTextPrefix n) bs rest → (starts_with eqb bs n ≡ true) × (rest ≡ drop (length n) bs)
strip_found n bs rest h =
    (sym (starts_text true n bs (h.0, h.1, subst (λ (k : ℕ). IsCharBoundary bs k) (sym h.1.0) h.1.2)), h.2 ∙ ap (λ (k : ℕ). drop k bs) h.1.0)

pub strip_missing : (n bs : List ℕ) → FindsTextPrefix n bs None → starts_with eqb bs n ≡ false
strip_missing n bs h = sym (starts_text false n bs h)

positive : (n : ℕ) → eqb n 0 ≡ false → 0 < n
positive n h = let apart = eqb-false n 0 h in omega arith

-- the test for a scope: `contains` at `:` of a nonempty text
pub IsScope-contains : (r : Bool) (bs : List ℕ) → is_empty bs ≡ false → MatchBool r (HasMatch (FindsChar colon) bs) (FindsChar colon bs None) → (IsTrue (not r) → IsScope bs) × (IsScope bs → IsTrue (not r))
IsScope-contains true bs full h =
    let at = (contains_char colon bs true h (lit< tt)).0 refl in
    (λ e. absurd (false≢true e), λ scope. absurd (scope.without_colon at.0 0 at.1 at.2))
IsScope-contains false bs full h = (
  λ e. record {
    nonempty = positive (length bs) full;
    without_colon = λ k d l is. false≢true ((contains_char colon bs false h (lit< tt)).1 k l (get_or_default bs k 0 d l ∙ is));
  },
  λ scope. refl,
)
