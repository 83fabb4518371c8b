use Rattle.std.proofs.Common.{◌≡◌, sym, ◌∙◌, ap, Bool, true, false, ◌||◌, lit<}
use Rattle.std.proofs.lemmas.Bool.{or_left}
use Rattle.std.specs.List.{list_any}
use Rattle.pl_urn.specs.Cut.{has_cut}
use Rattle.pl_urn.specs.Grammar.{is_empty, is_dollar, is_bad_type}
use Rattle.pl_urn.proofs.Calls.{contains_cut, contains_byte, ends_colon}
use Rattle.pl_urn.proofs.grammar.is_bad_type.Goals as goal
use Rattle.pl_urn.proofs.grammar.is_bad_type.Goals.{then-is_empty, else-is_empty, then-contains, else-contains}

-- a test that `||` ends at, and one that goes on
or_yes : (v a b : Bool) → v ≡ true → a ≡ true → v ≡ (a || b)
or_yes v a b p q = p ∙ sym (or_left a b q)

or_no : (v a b : Bool) → v ≡ b → a ≡ false → v ≡ (a || b)
or_no v a b p q = p ∙ sym (ap (λ (t : Bool). t || b) q)

pub returns-then-contains-2 : goal.returns-then-contains-2
unfolding is_bad_type
returns-then-contains-2 c =
    let first : c.if-is_empty.value ≡ (is_empty c.args.kind.now || has_cut c.args.kind.now) =
    elim c.if-is_empty.branch [
      | then-is_empty w ↦ or_yes _ _ _ (w.value-is ∙ w.if-is_empty.true) (sym c.is_empty.ensures ∙ w.if-is_empty.true)
      | else-is_empty w ↦ or_no _ _ _ (w.value-is ∙ contains_cut _ _ w.contains.ensures.cases) (sym c.is_empty.ensures ∙ w.if-is_empty.false)
    ] in
    let second : c.if-contains.value ≡ ((is_empty c.args.kind.now || has_cut c.args.kind.now) || list_any is_dollar c.args.kind.now) =
    elim c.if-contains.branch [
      | then-contains w ↦ or_yes _ _ _ (w.value-is ∙ w.if-contains.true) (sym first ∙ w.if-contains.true)
      | else-contains w ↦ or_no _ _ _ (w.value-is ∙ contains_byte 36 _ _ (lit< tt) w.contains-else-contains.ensures.cases) (sym first ∙ w.if-contains.false)
    ] in
    or_yes _ _ _ c.if-contains-2.true (sym second ∙ c.if-contains-2.true)

pub returns-else-contains-2 : goal.returns-else-contains-2
unfolding is_bad_type
returns-else-contains-2 c =
    let first : c.if-is_empty.value ≡ (is_empty c.args.kind.now || has_cut c.args.kind.now) =
    elim c.if-is_empty.branch [
      | then-is_empty w ↦ or_yes _ _ _ (w.value-is ∙ w.if-is_empty.true) (sym c.is_empty.ensures ∙ w.if-is_empty.true)
      | else-is_empty w ↦ or_no _ _ _ (w.value-is ∙ contains_cut _ _ w.contains.ensures.cases) (sym c.is_empty.ensures ∙ w.if-is_empty.false)
    ] in
    let second : c.if-contains.value ≡ ((is_empty c.args.kind.now || has_cut c.args.kind.now) || list_any is_dollar c.args.kind.now) =
    elim c.if-contains.branch [
      | then-contains w ↦ or_yes _ _ _ (w.value-is ∙ w.if-contains.true) (sym first ∙ w.if-contains.true)
      | else-contains w ↦ or_no _ _ _ (w.value-is ∙ contains_byte 36 _ _ (lit< tt) w.contains-else-contains.ensures.cases) (sym first ∙ w.if-contains.false)
    ] in
    or_no _ _ _ (ends_colon _ _ c.ends_with.ensures.cases) (sym second ∙ c.if-contains-2.false)
