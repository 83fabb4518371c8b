-- The problems of what is left, by an event.
use Rattle.std.proofs.Common.{◌≡◌, ◌∙◌, ◌-◌, ℕ, Bool, true, false, not, ◌&&◌, if◌then◌else◌, is_some, is_none, List, [], ◌++◌, filter_map, length, reverse, take, Option, Some, None, refl, sym, ap, arith}
use Rattle.std.proofs.lemmas.List.{append-nil}
use Rattle.pl_decide.specs.declared.problem.Problem.{Problem}
use Rattle.pl_events.specs.declared.event.What.{What}
use Rattle.pl_lemmas.specs.Words.{first_in, option_list}
use Rattle.pl_model.specs.Known.{Known, has_problem, is_over}
use Rattle.pl_model.specs.Problems.{decision_problems, end_problems, ends_well, made_problems, missing_provider, newly_decided, provider_problems, refusal_in}
use Rattle.pl_model.specs.declared.decided.Decided.{Decided}

-- the run ends well where it is over, was not, and no problem stands or is made
ends : {X : Type 0} (over was stands makes : Bool) (made : Option X) → is_some made ≡ makes
    → (over && not was && not stands && is_none made) ≡ ((not was && not stands && not makes) && over)
ends over was stands makes made is = by over was stands made ∙ ap (λ (b : Bool). (not was && not stands && not b) && over) is
  where
    by : {X : Type 0} (over was stands : Bool) (made : Option X)
        → (over && not was && not stands && is_none made) ≡ ((not was && not stands && not (is_some made)) && over)
    by true true stands made = refl
    by true false true made = refl
    by true false false None = refl
    by true false false (Some x) = refl
    by false true stands made = refl
    by false false true made = refl
    by false false false None = refl
    by false false false (Some x) = refl

-- ---- what is left by an event

module _
    (earlier later : Known)
    (what : What)
    (was makes : Bool)
    (over : is_over earlier ≡ was)
    (stands : has_problem earlier ≡ has_problem later)
    (made : is_some (first_in (made_problems earlier later what)) ≡ makes)
  where
    abbrev ending : Bool → List Problem
    ending well = if well then end_problems later else []

    well : ends_well earlier later what ≡ ((not was && not (has_problem later) && not makes) && is_over later)
    well =
        ends (is_over later) (is_over earlier) (has_problem earlier) makes (first_in (made_problems earlier later what)) made
        ∙ (λ i. (not (over i) && not (stands i) && not makes) && is_over later)

    pub left_at_end : (problems : List Problem) → (not was && not (has_problem later) && not makes) ≡ true → problems ≡ ending (is_over later)
        → problems ≡ ending (ends_well earlier later what)
    left_at_end problems may is =
        is ∙ ap (λ (b : Bool). ending (b && is_over later)) (sym may) ∙ ap ending (sym well)

    pub none_at_end : (not was && not (has_problem later) && not makes) ≡ false → [] ≡ ending (ends_well earlier later what)
    none_at_end may = ap (λ (b : Bool). ending (b && is_over later)) (sym may) ∙ ap ending (sym well)

-- ---- an event that decides nothing

module _ (earlier later : Known) (same : length earlier.decided ≡ length later.decided) where
  none_new : newly_decided earlier later ≡ []
  none_new =
      let none : length later.decided - length earlier.decided ≡ 0 = omega arith in
      ap (λ (n : ℕ). reverse (take n later.decided)) none

  alone : (own : Option Problem) → decision_problems earlier later ++ (option_list own ++ provider_problems earlier later) ≡ option_list own
  alone own =
      ap (λ (decided : List Decided). filter_map (λ one. refusal_in one.decision) decided ++ (option_list own ++ filter_map (missing_provider later) decided)) none_new
      ∙ append-nil (option_list own)

  first_of : (own : Option Problem) → is_some (first_in (option_list own)) ≡ is_some own
  first_of None = refl
  first_of (Some trouble) = refl

  -- it makes a problem where it is one by itself
  pub made_alone : (own : Option Problem)
      → is_some (first_in (decision_problems earlier later ++ (option_list own ++ provider_problems earlier later))) ≡ is_some own
  made_alone own = ap (λ (troubles : List Problem). is_some (first_in troubles)) (alone own) ∙ first_of own
