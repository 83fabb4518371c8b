-- What reading one text after another finds.
use Rattle.std.proofs.Common.{◌≡◌, ◌<◌, ℕ, suc, ◌+◌, add-one, Bool, true, false, not, cond, List, [], ◌∷◌, Option, Some, None, Result, drop, length, get_or, sym, ap, ◌∙◌, refl}
use Rattle.std.specs.Prelude.{All, IfOk}
use Rattle.std.specs.Option.{option_or}
use Rattle.std.proofs.lemmas.List.Elements.{All-cons, All-nil}
use Rattle.std.proofs.lemmas.List.Folds.{find-append}
use Rattle.std.proofs.Math.Seq.{drop-cons}
use Rattle.pl_state.specs.declared.fault.OptionFault.{OptionFault}
use Rattle.pl_state.specs.References.{property_urns}
use Rattle.pl_options.specs.GoalOf.{first_bad}
use Rattle.pl_options.specs.Refused.{IsRefusedText, IsRefusedFor}
use Rattle.pl_options.specs.declared.fault.BadText.{BadText}
use Rattle.pl_options.specs.declared.fault.BadText.TheVariants as text
use Rattle.pl_options.specs.declared.fault.GoalFault.{GoalFault}
use Rattle.pl_options.specs.declared.fault.GoalFault.TheVariants as goal

-- a refusal of a part is one of the whole, where what the part finds is what the whole finds
pub refused_text : (part whole : Option (List ℕ)) (bad : BadText) → ((told : List ℕ) → part ≡ Some told → whole ≡ Some told) → IsRefusedText part bad → IsRefusedText whole bad
refused_text part whole (text.Refused told) same h = same told h
refused_text part whole text.OutOfMemory same h = tt

pub refused_for : (part whole : Option OptionFault) (fault : GoalFault) → ((found : OptionFault) → part ≡ Some found → whole ≡ Some found) → IsRefusedFor part fault → IsRefusedFor whole fault
refused_for part whole (goal.Option found) same h = same found h
refused_for part whole goal.OutOfMemory same h = tt

-- what the first part finds, the whole finds
pub found_first : {X : Type 0} (part rest : Option X) (found : X) → part ≡ Some found → option_or part rest ≡ Some found
found_first part rest found e = rw e refl

-- the texts of a pair, and then those of the others
pub first_bad_keyed : (passes : List ℕ → Bool) (pair : List ℕ × List (List ℕ)) (more : List (List ℕ × List (List ℕ))) → first_bad passes (property_urns (pair ∷ more)) ≡ option_or (first_bad passes pair.1) (first_bad passes (property_urns more))
first_bad_keyed passes pair more = find-append (λ one. not (passes one)) pair.1 (property_urns more)

head_passes : (passes : Bool) (one : List ℕ) (later : Option (List ℕ)) → cond (not passes) (Some one) later ≡ None → (passes ≡ true) × (later ≡ None)
head_passes true one later e = (refl, e)
head_passes false one later e = absurd cc

-- where no text fails, all pass
pub all_pass : (passes : List ℕ → Bool) (texts : List (List ℕ)) → first_bad passes texts ≡ None → All (λ one. passes one ≡ true) texts
all_pass passes [] e = All-nil _
all_pass passes (one ∷ more) e =
    let head = head_passes (passes one) one (first_bad passes more) e in
    All-cons (λ other. passes other ≡ true) one more head.0 (all_pass passes more head.1)

-- what is bad in some pairs, by the place of the pair that is looked at
keyed_at : (passes : List ℕ → Bool) (pairs : List (List ℕ × List (List ℕ))) (at : ℕ) (pair : List ℕ × List (List ℕ)) → at < length pairs → pair ≡ get_or pairs at pair → first_bad passes (property_urns (drop at pairs)) ≡ option_or (first_bad passes pair.1) (first_bad passes (property_urns (drop (at + 1) pairs)))
keyed_at passes pairs at pair within is =
    let parts : drop at pairs ≡ pair ∷ drop (at + 1) pairs = rw add-one (drop-cons pairs at pair within ∙ ap (λ (one : List ℕ × List (List ℕ)). one ∷ drop (suc at) pairs) (sym is)) in
    ap (λ (rest : List (List ℕ × List (List ℕ))). first_bad passes (property_urns rest)) parts ∙ first_bad_keyed passes pair (drop (at + 1) pairs)

pub keyed_refused : (passes : List ℕ → Bool) (pairs : List (List ℕ × List (List ℕ))) (at : ℕ) (pair : List ℕ × List (List ℕ)) (bad : BadText) → at < length pairs → pair ≡ get_or pairs at pair → first_bad passes (property_urns pairs) ≡ first_bad passes (property_urns (drop at pairs)) → IsRefusedText (first_bad passes pair.1) bad → IsRefusedText (first_bad passes (property_urns pairs)) bad
keyed_refused passes pairs at pair bad within is among h =
    refused_text (first_bad passes pair.1) (first_bad passes (property_urns pairs)) bad
    (λ told e. among ∙ keyed_at passes pairs at pair within is ∙ found_first (first_bad passes pair.1) (first_bad passes (property_urns (drop (at + 1) pairs))) told e)
    h

next_part : {X : Type 0} (part rest : Option X) → part ≡ None → option_or part rest ≡ rest
next_part None rest e = refl
next_part (Some found) rest e = absurd cc

pub keyed_later : (passes : List ℕ → Bool) (pairs : List (List ℕ × List (List ℕ))) (at : ℕ) (pair : List ℕ × List (List ℕ)) → at < length pairs → pair ≡ get_or pairs at pair → first_bad passes (property_urns pairs) ≡ first_bad passes (property_urns (drop at pairs)) → first_bad passes pair.1 ≡ None → first_bad passes (property_urns pairs) ≡ first_bad passes (property_urns (drop (at + 1) pairs))
keyed_later passes pairs at pair within is among none =
    among ∙ keyed_at passes pairs at pair within is ∙ next_part (first_bad passes pair.1) (first_bad passes (property_urns (drop (at + 1) pairs))) none

-- the texts of a result are those of its text
pub text_of_made : {E : Type 0} (made : Result (List ℕ) E) (text whole : List ℕ) → text ≡ whole → IfOk made (λ one. one ≡ text) → IfOk made (λ one. one ≡ whole)
text_of_made made text whole same h = rw (← same) h
