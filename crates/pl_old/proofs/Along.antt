-- Some goal that is deleted first takes a row along exactly where the row is the claim of such a goal, or is in a chain
-- and goes along now.
use Rattle.std.proofs.Common.{◌≡◌, ◌∙◌, ℕ, Bool, true, false, ◌&&◌, ◌||◌, if◌then◌else◌, List, [], ◌∷◌, refl, ap}
use Rattle.std.specs.List.{list_any}
use Rattle.pl_decide.specs.Limited.{is_delete_first}
use Rattle.pl_lemmas.specs.Words.{has_number, is_row}
use Rattle.pl_model.specs.Claims.{chain_of_claim, is_chained}
use Rattle.pl_model.specs.Known.{Known}
use Rattle.pl_model.specs.Rows.{goes_now, takes_along}
use Rattle.pl_model.specs.declared.decided.Decided.{Decided}

along_or : (claim chained goes claims chains : Bool)
    → ((claim || (chained && goes)) || (claims || (chains && goes))) ≡ ((claim || claims) || ((chained || chains) && goes))
along_or true chained goes claims chains = refl
along_or false false goes claims chains = refl
along_or false true true true chains = refl
along_or false true true false chains = refl
along_or false true false true chains = refl
along_or false true false false true = refl
along_or false true false false false = refl

-- one more decision, deleted first or not
one_more : (first claim goes claims chains : Bool) (chain : List ℕ) (row : ℕ)
    → ((first && (claim || (has_number (if first then chain else []) row && goes))) || (claims || (chains && goes)))
    ≡ (((first && claim) || claims) || ((has_number (if first then chain else []) row || chains) && goes))
one_more true claim goes claims chains chain row = along_or claim (has_number chain row) goes claims chains
one_more false claim goes claims chains chain row = refl

pub along_by_marks : (known : Known) (row : ℕ) (decided : List Decided)
    → list_any (takes_along known row) decided
    ≡ (list_any (λ one. is_delete_first one.decision && is_row one.claim row) decided
    || (is_chained known.run decided row && goes_now known row))
along_by_marks known row [] = refl
along_by_marks known row (one ∷ more) =
    ap (λ (b : Bool). takes_along known row one || b) (along_by_marks known row more)
    ∙ one_more (is_delete_first one.decision) (is_row one.claim row) (goes_now known row)
    (list_any (λ other. is_delete_first other.decision && is_row other.claim row) more) (is_chained known.run more row)
    (chain_of_claim known.run one.claim) row
