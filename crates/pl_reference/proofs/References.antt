-- What the calls of std's text functions give, in the words of provider references.
use Rattle.std.proofs.Common.{◌≡◌, ◌<◌, ◌≤◌, ℕ, zero, suc, Bool, true, false, not, List, [], ◌∷◌, ◌++◌, length, take, drop, sym, ap, ◌∙◌, arith, eqb, Some, None, is_none}
use Rattle.std.proofs.lemmas.Bool.{and_from, and_left, and_right, cond-true, cond-false, or_right}
use Rattle.std.specs.List.{starts_with}
use Rattle.std.specs.Str.Pattern.{LacksTextAt, RFindsText, SplitsAroundMatch}
use Rattle.pl_urn.specs.Cut.{begins_with_cut, cut, has_cut, rest_of}
use Rattle.pl_urn.specs.declared.fault.UrnFault.{UrnFault}
use Rattle.pl_urn.specs.Grammar.{is_empty, is_provider_type, own_type_of, provider_prefix, told_fault, urn_fault}
use Rattle.pl_urn.proofs.Cuts.{cut_missing}
use Rattle.pl_reference.specs.Reference.{after_last_cut, before_last_cut, is_provider_urn, is_reference, reference_in}

-- a text cut at its last `::`
pub record IsLastCut (bs front back : List ℕ) : Type 0 where
  pub found : has_cut bs ≡ true
  pub before : before_last_cut bs ≡ front
  pub after : after_last_cut bs ≡ back

has_cut_here : (bs rest : List ℕ) → bs ≡ cut ++ rest → has_cut bs ≡ true
unfolding has_cut begins_with_cut
has_cut_here bs rest e = ap has_cut e

has_cut_later : (b : ℕ) (bs : List ℕ) → has_cut bs ≡ true → has_cut (b ∷ bs) ≡ true
unfolding has_cut
has_cut_later b bs h = or_right _ _ h

cut_here : (b : ℕ) (bs : List ℕ) → has_cut bs ≡ false → (before_last_cut (b ∷ bs) ≡ []) × (after_last_cut (b ∷ bs) ≡ rest_of bs)
unfolding before_last_cut after_last_cut
cut_here b bs h = (cond-false _ _ _ h, cond-false _ _ _ h)

cut_later : (b : ℕ) (bs : List ℕ) → has_cut bs ≡ true → (before_last_cut (b ∷ bs) ≡ b ∷ before_last_cut bs) × (after_last_cut (b ∷ bs) ≡ after_last_cut bs)
unfolding before_last_cut after_last_cut
cut_later b bs h = (cond-true _ _ _ h, cond-true _ _ _ h)

-- where a search finds the last `::`, the text is cut
pub last_cut : (bs : List ℕ) (i : ℕ) (rest : List ℕ) → ((k : ℕ) → i < k → k ≤ length bs → LacksTextAt cut bs k) → drop i bs ≡ cut ++ rest → IsLastCut bs (take i bs) rest
last_cut [] zero rest lacks e = absurd cc
last_cut [] (suc i) rest lacks e = absurd cc
last_cut (b ∷ bs) zero rest lacks e =
    let none = (cut_missing bs (λ k l. lacks (suc k) (omega arith) (omega arith))).0 in
    let here = cut_here b bs none in
    record { found = has_cut_here (b ∷ bs) rest e; before = here.0; after = here.1 ∙ ap (λ (l : List ℕ). rest_of (rest_of l)) e }
last_cut (b ∷ bs) (suc i) rest lacks e =
    let more = last_cut bs i rest (λ k l m. lacks (suc k) (omega arith) (omega arith)) e in
    let later = cut_later b bs more.found in
    record { found = has_cut_later b bs more.found; before = later.0 ∙ ap (λ (l : List ℕ). b ∷ l) more.before; after = later.1 ∙ more.after }

-- `rsplit_once` at `::`
pub last_cut_found : (bs front back : List ℕ) → SplitsAroundMatch (RFindsText cut) bs front back → IsLastCut bs front back
last_cut_found bs front back h = rw (h.3, h.4) (last_cut bs h.0 (drop h.1 bs) h.2.0 h.2.1.split)

pub last_cut_missing : (bs : List ℕ) → RFindsText cut bs None → has_cut bs ≡ false
last_cut_missing bs h = (cut_missing bs h).0

-- the tests of a reference
pub reference_without_cut : (text : List ℕ) → has_cut text ≡ false → reference_in text ≡ None
unfolding reference_in is_reference
reference_without_cut text h = cond-false _ _ _ (and_left _ _ h)

pub reference_without_id : (text front back : List ℕ) → IsLastCut text front back → is_empty back ≡ true → reference_in text ≡ None
unfolding reference_in is_reference
reference_without_id text front back h empty =
    cond-false _ _ _ (and_right _ _ (and_left _ _ (ap (λ (l : List ℕ). not (is_empty l)) h.after ∙ ap not empty)))

pub reference_without_provider : (text front back : List ℕ) → IsLastCut text front back → is_provider_urn front ≡ false → reference_in text ≡ None
unfolding reference_in is_reference
reference_without_provider text front back h other =
    cond-false _ _ _ (and_right _ _ (and_right _ _ (ap is_provider_urn h.before ∙ other)))

pub reference_read : (text front back : List ℕ) → IsLastCut text front back → is_empty back ≡ false → is_provider_urn front ≡ true → reference_in text ≡ Some (front, back)
unfolding reference_in is_reference
reference_read text front back h full provider =
    let tests = and_from _ _ h.found (and_from _ _ (ap (λ (l : List ℕ). not (is_empty l)) h.after ∙ ap not full) (ap is_provider_urn h.before ∙ provider)) in
    cond-true _ _ _ tests ∙ ap (λ (l : List ℕ). Some (l, after_last_cut text)) h.before ∙ ap (λ (l : List ℕ). Some (front, l)) h.after

-- the tests of a provider's URN
pub provider_yes : (text own : List ℕ) (r : Bool) → own ≡ own_type_of text → urn_fault text ≡ None → r ≡ true → r ≡ is_provider_type own → is_provider_urn text ≡ true
unfolding is_provider_urn
provider_yes text own r is urn passes h =
    and_from _ _ (ap is_none urn) (ap (λ (l : List ℕ). starts_with eqb l provider_prefix) (sym is) ∙ sym h ∙ passes)

pub provider_no : (text own : List ℕ) (r : Bool) → own ≡ own_type_of text → r ≡ false → r ≡ is_provider_type own → is_provider_urn text ≡ false
unfolding is_provider_urn
provider_no text own r is fails h =
    and_right _ _ (ap (λ (l : List ℕ). starts_with eqb l provider_prefix) (sym is) ∙ sym h ∙ fails)

pub provider_fault : (text : List ℕ) (fault : UrnFault) → urn_fault text ≡ told_fault fault → is_none (told_fault fault) ≡ false → is_provider_urn text ≡ false
unfolding is_provider_urn
provider_fault text fault told some = and_left _ _ (ap is_none told ∙ some)
