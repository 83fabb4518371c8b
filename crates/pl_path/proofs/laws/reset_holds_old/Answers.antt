use Rattle.std.proofs.Common.{◌≡◌, true, false, cond, List, ◌∷◌, ◌++◌, Option, None, Some, option_map, inl, inr, refl, sym, ap, subst}
use Rattle.pl_value.proofs.FieldParts.{Pairs}
use Rattle.pl_path.specs.declared.segment.Segment.{Segment}
use Rattle.pl_path.specs.Found.{found_at}
use Rattle.pl_path.specs.Grammar.{segments_of}
use Rattle.pl_path.specs.Laws.{HoldsOld, KeepsTheWay, outline, ResetByText, StaysElsewhere, StaysWhole}
use Rattle.pl_path.specs.Reset.{are_too_deep, reset_along, reset_at, set_back, unless_too_deep}
use Rattle.pl_path.proofs.OnTheWay.{keeps_the_way}
use Rattle.pl_path.proofs.Refused.{read_is_written, written_is_read}
use Rattle.pl_path.proofs.SetBack.{found_at_old, stays_at, stays_elsewhere}
use Rattle.pl_path.proofs.StepByStep.{is_read, read_back}
use Rattle.pl_path.proofs.laws.reset_holds_old.Goals as goal

-- fields that are set back, or those before where they are too deep
unless : (P : Pairs → Type 0) (new made : Pairs) → (are_too_deep made ≡ false → P made) → (are_too_deep made ≡ true → P new) → P (unless_too_deep new made)
unless P new made fits deep =
    (elim (are_too_deep made) as (λ b. are_too_deep made ≡ b → P (cond b new made)) [ true ↦ λ e. deep e | false ↦ λ e. fits e ]) refl

holds_old : HoldsOld
holds_old path new old (above, last, whole, can) fits =
    unless (λ made. found_at path made ≡ found_at path old) new (set_back path new old)
    (λ e. subst (λ path. found_at path (set_back path new old) ≡ found_at path old) (sym whole) (found_at_old above last new old can))
    (λ e. absurd (fits e))

stays_apart : StaysElsewhere
stays_apart path other new old first second =
    unless (λ made. found_at other made ≡ found_at other new) new (set_back path new old)
    (λ e. stays_elsewhere path other (found_at path old) new first second) (λ e. refl)

keeps_way : KeepsTheWay
keeps_way first next more new old =
    unless (λ made. option_map outline (found_at first made) ≡ option_map outline (found_at first new)) new (set_back (first ++ next ∷ more) new old)
    (λ e. keeps_the_way first next more (found_at (first ++ next ∷ more) old) new) (λ e. refl)

stays_whole : StaysWhole
stays_whole path new old sound (inl cannot) =
    unless (λ made. made ≡ new) new (set_back path new old) (λ e. stays_at path new old sound cannot) (λ e. refl)
stays_whole path new old sound (inr deep) = ap (λ b. cond b new (set_back path new old)) deep

along_path : (path : List Segment) (new old : Pairs) (got : Option (List Segment)) → got ≡ Some path
    → elim got [ None ↦ new | Some path ↦ reset_along path new old ] ≡ reset_along path new old
along_path path new old got is = ap (λ (got : Option (List Segment)). elim got [ None ↦ new | Some path ↦ reset_along path new old ]) is

by_text : ResetByText
unfolding reset_at
by_text text new old = (
  λ path written. along_path path new old (segments_of text) (is_read text path (written_is_read text path written)),
  λ none. (elim (segments_of text) as (λ got. segments_of text ≡ got → elim got [ None ↦ new | Some path ↦ reset_along path new old ] ≡ new) [
    | None ↦ λ e. refl
    | Some path ↦ λ e. absurd (none (path, read_is_written text path (read_back text path e)))
  ]) refl,
)

pub returns-clause-at_path : goal.returns-clause-at_path
returns-clause-at_path c = holds_old

pub returns-clause-elsewhere : goal.returns-clause-elsewhere
returns-clause-elsewhere c = stays_apart

pub returns-clause-on_the_way : goal.returns-clause-on_the_way
returns-clause-on_the_way c = keeps_way

pub returns-clause-unchanged : goal.returns-clause-unchanged
returns-clause-unchanged c = stays_whole

pub returns-clause-by_text : goal.returns-clause-by_text
returns-clause-by_text c = by_text
