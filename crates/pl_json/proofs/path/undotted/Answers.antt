use Rattle.std.proofs.Common.{◌≡◌, ◌≢◌, ℕ, ◌==◌, Bool, true, false, cond, List, [], ◌∷◌, Option, Some, None, MatchOption, Bor, unwrap_or, refl, sym, ap, ◌∙◌, lit<}
use Rattle.std.proofs.lemmas.Bool.{eqb-true}
use Rattle.std.proofs.lemmas.Str.Pattern.{strip_prefix_char}
use Rattle.pl_json.specs.Faults.{undotted}
use Rattle.pl_json.proofs.path.undotted.Goals as goal

undotted-same : (text : List ℕ) → ((rest : List ℕ) → text ≢ 46 ∷ rest) → undotted text ≡ text
undotted-same [] other = refl
undotted-same (first ∷ more) other = by_case (first == 46) refl
  where
    by_case : (t : Bool) → (first == 46) ≡ t → cond t more (first ∷ more) ≡ first ∷ more
    by_case true is = absurd (other more (ap (λ n. n ∷ more) (eqb-true first 46 is)))
    by_case false is = refl

stripped : (r : Option (Bor (List ℕ))) (path : Bor (List ℕ)) → MatchOption r ((rest : List ℕ) → path.now ≢ 46 ∷ rest) (λ x. path.now ≡ 46 ∷ x.now)
    → (unwrap_or r path).now ≡ undotted path.now
stripped None path none = sym (undotted-same path.now none)
stripped (Some rest) path is = sym (ap undotted is)

pub returns : goal.returns
returns c =
    ap (λ (b : Bor (List ℕ)). b.now) c.unwrap_or.ensures
    ∙ stripped c.strip_prefix.result c.args.path (strip_prefix_char 46 c.args.path.now c.strip_prefix.result c.strip_prefix.ensures.cases (lit< tt))
