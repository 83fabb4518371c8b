use Rattle.std.proofs.Common.{◌≡◌, ℕ, true, false, List, ◌∷◌, sym, ap, ◌∙◌}
use Rattle.pl_value.specs.IsValue.{are_fields}
use Rattle.pl_value.specs.Keys as keys
use Rattle.pl_path.specs.declared.segment.Segment.{Segment}
use Rattle.pl_path.specs.declared.segment.Segment.TheVariants.{Key}
use Rattle.pl_path.specs.Found.{found_from}
use Rattle.pl_path.specs.Reset.{are_too_deep, reset_fields}
use Rattle.pl_path.proofs.AtSegment.{along}
use Rattle.pl_path.proofs.StaysSound.{resets_sound}
use Rattle.pl_path.proofs.reset.reset_to_old.Goals as goal

pub returns-then-are_too_deep-clause-reset : goal.returns-then-are_too_deep-clause-reset
returns-then-are_too_deep-clause-reset c =
    let key : List ℕ = c.in-Key.key in
    let rest : List Segment = c.in-Some.rest.now in
    let path : c.args.path.now ≡ Key key ∷ rest =
    sym c.as_slice.ensures ∙ c.in-Some.ensures.cases.0 ∙ ap (λ segment. segment ∷ rest) c.in-Key.is in
    let made : c.in-Ok.made ≡ reset_fields (Key key ∷ rest) (found_from rest (keys.value_at key c.args.old.now)) c.args.fields =
    c.in-Ok.ensures ∙ (λ i. reset_fields (Key (c.as_slice-2.ensures i) ∷ rest)
    (found_from rest (keys.value_at (c.as_slice-2.ensures i) (c.as_slice-4.ensures.same i))) (c.as_slice-3.ensures.same i)) in
    let deep : are_too_deep c.in-Ok.made ≡ true =
    ap are_too_deep (sym c.as_slice-5.ensures) ∙ sym c.are_too_deep.ensures ∙ c.if-are_too_deep.true in
    along true key rest c.args.path.now c.args.fields c.in-Ok.made c.args.old.now path made deep

pub from_items-requires : goal.from_items-requires
from_items-requires c =
    let key : List ℕ = c.in-Key.key in
    let rest : List Segment = c.in-Some.rest.now in
    let made : c.in-Ok.made ≡ reset_fields (Key key ∷ rest) (found_from rest (keys.value_at key c.args.old.now)) c.args.fields =
    c.in-Ok.ensures ∙ (λ i. reset_fields (Key (c.as_slice-2.ensures i) ∷ rest)
    (found_from rest (keys.value_at (c.as_slice-2.ensures i) (c.as_slice-4.ensures.same i))) (c.as_slice-3.ensures.same i)) in
    ap are_fields made ∙ resets_sound key rest c.args.old.now c.args.fields c.as_slice-4.ensures.sound c.as_slice-3.ensures.sound

pub returns-clause-reset : goal.returns-clause-reset
returns-clause-reset c =
    let key : List ℕ = c.in-Key.key in
    let rest : List Segment = c.in-Some.rest.now in
    let path : c.args.path.now ≡ Key key ∷ rest =
    sym c.as_slice.ensures ∙ c.in-Some.ensures.cases.0 ∙ ap (λ segment. segment ∷ rest) c.in-Key.is in
    let made : c.in-Ok.made ≡ reset_fields (Key key ∷ rest) (found_from rest (keys.value_at key c.args.old.now)) c.args.fields =
    c.in-Ok.ensures ∙ (λ i. reset_fields (Key (c.as_slice-2.ensures i) ∷ rest)
    (found_from rest (keys.value_at (c.as_slice-2.ensures i) (c.as_slice-4.ensures.same i))) (c.as_slice-3.ensures.same i)) in
    let deep : are_too_deep c.in-Ok.made ≡ false =
    ap are_too_deep (sym c.as_slice-5.ensures) ∙ sym c.are_too_deep.ensures ∙ c.if-are_too_deep.false in
    c.from_items.ensures ∙ along false key rest c.args.path.now c.args.fields c.in-Ok.made c.args.old.now path made deep
