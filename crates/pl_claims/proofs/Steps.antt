-- What is kept with one decision more, or less.
use Rattle.std.proofs.Common.{◌≡◌, ◌<◌, ◌∙◌, ℕ, zero, suc, true, List, [], ◌∷◌, ◌++◌, take, drop, length, map, reverse, Option, Some, None, option_map, refl, sym, ap, subst}
use Rattle.std.proofs.lemmas.List.{length-reverse, map-append, reverse-append}
use Rattle.std.proofs.Math.Seq.{take-append_seam}
use Rattle.std.specs.Global.{Vec}
use Rattle.std.specs.List.{slice_get}
use Rattle.std.specs.Option.{IfSome}
use Rattle.std.specs.Vec.{with_items}
use Rattle.pl_lemmas.specs.Words.{has_number}
use Rattle.pl_decide.specs.Limited.{is_delete_first}
use Rattle.pl_model.specs.declared.decided.Decided.{Decided}
use Rattle.pl_model.specs.declared.fixed.Fixed.{Fixed}
use Rattle.pl_model.specs.Run.{rows_of}
use Rattle.pl_model.specs.Claims.{chain_of_goal}
use Rattle.pl_claims.specs.declared.mark.Mark.{Mark}
use Rattle.pl_claims.specs.declared.settled.Settled.{Settled}
use Rattle.pl_claims.specs.Kept.{ClaimOnce, decided_in}
use Rattle.pl_claims.specs.Marks.{AreMarked, chained_by, claimed_by, freed_of, unchained_by}
use Rattle.pl_claims.proofs.Chains.{chain_within}
use Rattle.pl_claims.proofs.Freeing.{retracted_mark, retracted_marks}
use Rattle.pl_claims.proofs.Marking.{decided_mark, decided_marks, map_length}

pub decided_push : (settled : List Settled) (one : Settled) → decided_in (settled ++ one ∷ []) ≡ one.decided ∷ decided_in settled
decided_push settled one =
    ap reverse (map-append (λ it. it.decided) settled (one ∷ []))
    ∙ reverse-append (map (λ it. it.decided) settled) (one.decided ∷ [])

pub decided_length : (settled : List Settled) → length (decided_in settled) ≡ length settled
decided_length settled = length-reverse (map (λ it. it.decided) settled) ∙ map_length (λ it. it.decided) settled

twice : {X : Type 0} (f g : X → X) (o : Option X) → option_map g (option_map f o) ≡ option_map (λ x. g (f x)) o
twice f g None = refl
twice f g (Some x) = refl

-- the marks after a claim and a chain
pub more_marked : (run : Fixed) (settled : List Settled) (one : Settled) (marks claimed later : List Mark)
    → AreMarked run (decided_in settled) marks
    → IfSome one.decided.claim (λ row. row < length (rows_of run))
    → one.chain ≡ chain_of_goal run one.decided
    → length later ≡ length marks
    → ((row : ℕ) → slice_get claimed row
    ≡ option_map (claimed_by (length settled) one.decided.claim (is_delete_first one.decided.decision) row) (slice_get marks row))
    → ((row : ℕ) → slice_get later row ≡ option_map (chained_by (length settled) one.chain row) (slice_get claimed row))
    → AreMarked run (decided_in (settled ++ one ∷ [])) later
more_marked run settled one marks claimed later agree claim chain long first second =
    subst (λ decided. AreMarked run decided later) (sym (decided_push settled one))
    (decided_marks run (decided_in settled) marks one.decided agree claim later long each)
  where
    each : (row : ℕ) → slice_get later row ≡ option_map (decided_mark run (decided_in settled) marks one.decided agree claim row) (slice_get marks row)
    each row =
        second row ∙ ap (option_map (chained_by (length settled) one.chain row)) (first row)
        ∙ twice (claimed_by (length settled) one.decided.claim (is_delete_first one.decided.decision) row) (chained_by (length settled) one.chain row) (slice_get marks row)
        ∙ (λ i. option_map (λ mark. chained_by (sym (decided_length settled) i) (chain i) row
        (claimed_by (sym (decided_length settled) i) one.decided.claim (is_delete_first one.decided.decision) row mark)) (slice_get marks row))

-- a vector with as many other elements has those
pub same_items : (marks : Vec Mark) (others : List Mark) → marks.len ≡ length others → (with_items marks others).items ≡ others
same_items marks others long =
    ap (λ (n : ℕ). take n (others ++ drop (length others) marks.items)) long
    ∙ take-append_seam others (drop (length others) marks.items)

-- the rows of a goal's chain have their marks
pub chain_low : (run now : Fixed) (decided : Decided) (chain : List ℕ) (count : ℕ) → run ≡ now → chain ≡ chain_of_goal now decided
    → count ≡ length (rows_of run) → (row : ℕ) → has_number chain row ≡ true → row < count
chain_low run now decided chain count same is long row there =
    subst (λ (n : ℕ). row < n) (ap (λ (fixed : Fixed). length (rows_of fixed)) (sym same) ∙ sym long)
    (chain_within now decided row (ap (λ (numbers : List ℕ). has_number numbers row) (sym is) ∙ there))

-- ---- what is kept with one decision less

-- what is at a place is there with one more at the end
pub get_front : {X : Type 0} (xs : List X) (y : X) (k : ℕ) (x : X) → slice_get xs k ≡ Some x → slice_get (xs ++ y ∷ []) k ≡ Some x
get_front [] y k x is = absurd (let none : None ≡ Some x = is in cc)
get_front (first ∷ xs) y zero x is = is
get_front (first ∷ xs) y (suc k) x is = get_front xs y k x is

get_last : {X : Type 0} (xs : List X) (y : X) → slice_get (xs ++ y ∷ []) (length xs) ≡ Some y
get_last [] y = refl
get_last (x ∷ xs) y = get_last xs y

-- the last decision has its chain
pub chain_last : (run : Fixed) (settled before : List Settled) (one : Settled) → settled ≡ before ++ one ∷ []
    → ((goal : ℕ) (it : Settled) → slice_get settled goal ≡ Some it → it.chain ≡ chain_of_goal run it.decided)
    → one.chain ≡ chain_of_goal run one.decided
chain_last run settled before one is chained =
    chained (length before) one (ap (λ (items : List Settled). slice_get items (length before)) is ∙ get_last before one)

-- the marks after a chain and a claim are taken back
pub fewer_marked : (run : Fixed) (settled : List Settled) (one : Settled) (marks left later : List Mark)
    → AreMarked run (decided_in (settled ++ one ∷ [])) marks
    → ClaimOnce (decided_in (settled ++ one ∷ []))
    → one.chain ≡ chain_of_goal run one.decided
    → length later ≡ length marks
    → ((row : ℕ) → slice_get left row ≡ option_map (unchained_by (length settled) one.chain row) (slice_get marks row))
    → ((row : ℕ) → slice_get later row ≡ option_map (freed_of one.decided.claim row) (slice_get left row))
    → AreMarked run (decided_in settled) later
fewer_marked run settled one marks left later agree once chain long first second =
    let unclaimed : ClaimOnce (one.decided ∷ decided_in settled) = subst ClaimOnce (decided_push settled one) once in
    let marked : AreMarked run (one.decided ∷ decided_in settled) marks =
    subst (λ (decided : List Decided). AreMarked run decided marks) (decided_push settled one) agree in
    retracted_marks run (decided_in settled) marks one.decided marked unclaimed.0 later long each
  where
    each : (row : ℕ) → slice_get later row ≡ option_map (retracted_mark run (decided_in settled) one.decided row) (slice_get marks row)
    each row =
        second row ∙ ap (option_map (freed_of one.decided.claim row)) (first row)
        ∙ twice (unchained_by (length settled) one.chain row) (freed_of one.decided.claim row) (slice_get marks row)
        ∙ (λ i. option_map (λ mark. freed_of one.decided.claim row
        (unchained_by (sym (decided_length settled) i) (chain i) row mark)) (slice_get marks row))
