-- What the parts of a URN make, and what a URN's parts are.
use Rattle.std.proofs.Common.{◌≡◌, inl, inr, ℕ, Bool, true, false, List, [], ◌∷◌, ◌++◌, length, take, drop, refl, sym, ap, ◌∙◌, eqb, Option, Some, None, cond}
use Rattle.std.proofs.lemmas.Bool.{cond-true, cond-false, or_from, or_parts, cases_Bool}
use Rattle.std.proofs.lemmas.List.{take-append-drop}
use Rattle.std.proofs.lemmas.List.Folds.{list_any-append}
use Rattle.std.proofs.lemmas.List.Splits.{slice_split-cons_yes, slice_split-cons_no}
use Rattle.std.specs.List.{list_any, starts_with, slice_split, onto_first}
use Rattle.std.specs.Str.Pattern.{FindsText, FindsTextPrefix, SplitsAroundMatch, StripsPrefix}
use Rattle.pl_lemmas.proofs.Lists.{same_bytes}
use Rattle.pl_urn.specs.Cut.{cut, has_cut, before_cut, after_cut, IsWhole}
use Rattle.pl_urn.specs.Grammar.{is_empty, is_dollar, urn_prefix, parts_of, stack_of, project_of, qualified_type_of, name_of, has_empty_piece, empty_part, urn_fault, IsUrn, text_of}
use Rattle.pl_urn.specs.declared.fault.UrnFault.{UrnFault}
use Rattle.pl_urn.specs.declared.fault.UrnFault.TheVariants.{NoPrefix, TooFewParts}
use Rattle.pl_urn.proofs.Cuts.{cut_missing, cut_parts, has_cut-after, cut-append}
use Rattle.pl_urn.proofs.Calls.{split_found, strip_found, strip_missing}

-- what follows the prefix
pub parts_found : (text parts : List ℕ) → StripsPrefix (FindsTextPrefix urn_prefix) text parts → parts ≡ parts_of text
unfolding parts_of
parts_found text parts h =
    let found = strip_found urn_prefix text parts h in
    found.1 ∙ sym (cond-true _ _ _ found.0)

pub parts_missing : (text : List ℕ) → FindsTextPrefix urn_prefix text None → [] ≡ parts_of text
unfolding parts_of
parts_missing text h = sym (cond-false _ _ _ (strip_missing urn_prefix text h))

-- why a text is no URN
pub urn_fault-no_prefix : (text : List ℕ) → FindsTextPrefix urn_prefix text None → urn_fault text ≡ Some NoPrefix
unfolding urn_fault
urn_fault-no_prefix text h = cond-false _ _ _ (strip_missing urn_prefix text h)

pub urn_fault-too_few : (text parts rest rest' : List ℕ) → StripsPrefix (FindsTextPrefix urn_prefix) text parts → rest ≡ after_cut parts → rest' ≡ after_cut rest → FindsText cut rest' None → urn_fault text ≡ Some TooFewParts
unfolding urn_fault
urn_fault-too_few text parts rest rest' h first second none =
    let third : rest' ≡ after_cut (after_cut (parts_of text)) = second ∙ ap after_cut (first ∙ ap after_cut (parts_found text parts h)) in
    cond-true _ _ _ (strip_found urn_prefix text parts h).0 ∙ cond-false _ _ _ (ap has_cut (sym third) ∙ (cut_missing rest' none).0)

pub urn_fault-parts : (text parts stack rest project rest' kind name : List ℕ) → StripsPrefix (FindsTextPrefix urn_prefix) text parts → stack ≡ before_cut parts → rest ≡ after_cut parts → project ≡ before_cut rest → rest' ≡ after_cut rest → SplitsAroundMatch (FindsText cut) rest' kind name → urn_fault text ≡ empty_part stack project kind name
unfolding urn_fault
urn_fault-parts text parts stack rest project rest' kind name h s r p r' last =
    let whole = parts_found text parts h in
    let second : rest ≡ after_cut (parts_of text) = r ∙ ap after_cut whole in
    let third : rest' ≡ after_cut (after_cut (parts_of text)) = r' ∙ ap after_cut second in
    let found = split_found rest' kind name last in
    let stack_is : stack ≡ stack_of text = s ∙ ap before_cut whole in
    let project_is : project ≡ project_of text = p ∙ ap before_cut second in
    let kind_is : kind ≡ qualified_type_of text = sym found.before ∙ ap before_cut third in
    let name_is : name ≡ name_of text = sym found.after ∙ ap after_cut third in
    rw (stack_is, project_is, kind_is, name_is)
    (cond-true _ _ _ (strip_found urn_prefix text parts h).0 ∙ cond-true _ _ _ (ap has_cut (sym third) ∙ found.found))

-- a test that must have failed, where the answer is `None`
pub pass_else : (b : Bool) (x : Option UrnFault) (fault : UrnFault) → cond b (Some fault) x ≡ None → (b ≡ false) × (x ≡ None)
pass_else true x fault e = absurd cc
pass_else false x fault e = (refl, e)

pass_then : (b : Bool) (x : Option UrnFault) (fault : UrnFault) → cond b x (Some fault) ≡ None → (b ≡ true) × (x ≡ None)
pass_then true x fault e = (refl, e)
pass_then false x fault e = absurd cc

onto_two : (x b : ℕ) (parts more : List (List ℕ)) → onto_first x (onto_first b parts ++ more) ≡ onto_first x (onto_first b parts) ++ more
onto_two x b [] more = refl
onto_two x b (part ∷ parts) more = refl

onto_first-append : (x : ℕ) (xs : List ℕ) (more : List (List ℕ)) → onto_first x (slice_split is_dollar xs ++ more) ≡ onto_first x (slice_split is_dollar xs) ++ more
onto_first-append x [] more = refl
onto_first-append x (b ∷ xs) more =
    elim (cases_Bool (is_dollar b)) [
      | inl stops ↦ rw (slice_split-cons_yes is_dollar b xs stops) refl
      | inr goes ↦ rw (slice_split-cons_no is_dollar b xs goes) (onto_two x b (slice_split is_dollar xs) more)
    ]

-- the pieces of two texts with a `$` between them
slice_split-append : (xs ys : List ℕ) → slice_split is_dollar (xs ++ (36 ∷ ys)) ≡ slice_split is_dollar xs ++ slice_split is_dollar ys
slice_split-append [] ys = refl
slice_split-append (x ∷ xs) ys =
    elim (cases_Bool (is_dollar x)) [
      | inl stops ↦ slice_split-cons_yes is_dollar x (xs ++ (36 ∷ ys)) stops ∙ ap (λ (l : List (List ℕ)). [] ∷ l) (slice_split-append xs ys)
          ∙ ap (λ (l : List (List ℕ)). l ++ slice_split is_dollar ys) (sym (slice_split-cons_yes is_dollar x xs stops))
      | inr goes ↦ slice_split-cons_no is_dollar x (xs ++ (36 ∷ ys)) goes ∙ ap (onto_first x) (slice_split-append xs ys)
          ∙ onto_first-append x xs (slice_split is_dollar ys)
          ∙ ap (λ (l : List (List ℕ)). l ++ slice_split is_dollar ys) (sym (slice_split-cons_no is_dollar x xs goes))
    ]

-- a type without `$` is one piece
slice_split-plain : (xs : List ℕ) → list_any is_dollar xs ≡ false → slice_split is_dollar xs ≡ xs ∷ []
slice_split-plain [] h = refl
slice_split-plain (x ∷ xs) h =
    let parts = or_parts _ _ h in
    slice_split-cons_no is_dollar x xs parts.0 ∙ ap (onto_first x) (slice_split-plain xs parts.1)

pub has_empty_piece-plain : (kind : List ℕ) → is_empty kind ≡ false → list_any is_dollar kind ≡ false → has_empty_piece kind ≡ false
unfolding has_empty_piece
has_empty_piece-plain kind full plain =
    ap (list_any is_empty) (slice_split-plain kind plain) ∙ or_from _ _ full refl

pub has_empty_piece-below : (above kind : List ℕ) → has_empty_piece above ≡ false → has_empty_piece kind ≡ false → has_empty_piece (above ++ (36 ∷ kind)) ≡ false
unfolding has_empty_piece
has_empty_piece-below above kind h k =
    ap (list_any is_empty) (slice_split-append above kind) ∙ list_any-append is_empty (slice_split is_dollar above) (slice_split is_dollar kind) ∙ or_from _ _ h k

-- a text that begins with the prefix
prefix_rest : (text : List ℕ) → starts_with eqb text urn_prefix ≡ true → text ≡ urn_prefix ++ parts_of text
unfolding parts_of
prefix_rest text h =
    let front : urn_prefix ≡ take (length urn_prefix) text = same_bytes _ _ h in
    rw (cond-true _ (drop (length urn_prefix) text) [] h) (sym (take-append-drop (length urn_prefix) text) ∙ ap (λ (l : List ℕ). l ++ drop (length urn_prefix) text) (sym front))

-- what a URN's text is made of
pub record IsMadeOf (text stack project kind name : List ℕ) : Type 0 where
  pub text_is : text ≡ text_of stack project kind name
  pub stack_whole : IsWhole stack
  pub project_whole : IsWhole project
  pub kind_whole : IsWhole kind
  pub stack_full : is_empty stack ≡ false
  pub project_full : is_empty project ≡ false
  pub kind_full : has_empty_piece kind ≡ false
  pub name_full : is_empty name ≡ false

-- the parts that are read of a text
pub record IsRead (text stack project kind name : List ℕ) : Type 0 where
  pub begins : starts_with eqb text urn_prefix ≡ true
  pub has_three : has_cut (after_cut (after_cut (parts_of text))) ≡ true
  pub stack_is : stack_of text ≡ stack
  pub project_is : project_of text ≡ project
  pub kind_is : qualified_type_of text ≡ kind
  pub name_is : name_of text ≡ name

-- what is read of a text of these parts
pub IsRead-text_of : (stack project kind name : List ℕ) → IsWhole stack → IsWhole project → IsWhole kind → IsRead (text_of stack project kind name) stack project kind name
unfolding parts_of
IsRead-text_of stack project kind name s p k =
    let first = cut-append stack (project ++ (cut ++ (kind ++ (cut ++ name)))) s in
    let second = cut-append project (kind ++ (cut ++ name)) p in
    let third = cut-append kind name k in
    record {
      begins = refl;
      has_three = ap (λ (l : List ℕ). has_cut (after_cut l)) first.after ∙ ap has_cut second.after ∙ third.found;
      stack_is = first.before;
      project_is = ap before_cut first.after ∙ second.before;
      kind_is = ap (λ (l : List ℕ). before_cut (after_cut l)) first.after ∙ ap before_cut second.after ∙ third.before;
      name_is = ap (λ (l : List ℕ). after_cut (after_cut l)) first.after ∙ ap after_cut second.after ∙ third.after;
    }

-- the faults of a text that is read so
pub urn_fault-read : (text stack project kind name : List ℕ) → IsRead text stack project kind name → urn_fault text ≡ empty_part stack project kind name
unfolding urn_fault
urn_fault-read text stack project kind name h =
    rw (← h.stack_is, ← h.project_is, ← h.kind_is, ← h.name_is)
    (cond-true _ _ _ h.begins ∙ cond-true _ _ _ h.has_three)

-- a URN's text is made of its parts
pub IsMadeOf-from_IsUrn : (text : List ℕ) → IsUrn text → IsMadeOf text (stack_of text) (project_of text) (qualified_type_of text) (name_of text)
unfolding urn_fault
IsMadeOf-from_IsUrn text h =
    let prefix = pass_then _ _ _ h in
    let three = pass_then _ _ _ prefix.1 in
    let stack = pass_else _ _ _ three.1 in
    let project = pass_else _ _ _ stack.1 in
    let kind = pass_else _ _ _ project.1 in
    let name = pass_else _ _ _ kind.1 in
    let third = cut_parts (after_cut (after_cut (parts_of text))) three.0 in
    let two = has_cut-after (after_cut (parts_of text)) three.0 in
    let second = cut_parts (after_cut (parts_of text)) two in
    let first = cut_parts (parts_of text) (has_cut-after (parts_of text) two) in
    record {
      text_is = prefix_rest text prefix.0 ∙ ap (λ (l : List ℕ). urn_prefix ++ l)
          (first.0 ∙ ap (λ (l : List ℕ). stack_of text ++ (cut ++ l))
          (second.0 ∙ ap (λ (l : List ℕ). project_of text ++ (cut ++ l)) third.0));
      stack_whole = first.1;
      project_whole = second.1;
      kind_whole = third.1;
      stack_full = stack.0;
      project_full = project.0;
      kind_full = kind.0;
      name_full = name.0;
    }

-- a text made of parts is a URN
pub IsUrn-from_IsMadeOf : (text stack project kind name : List ℕ) → IsMadeOf text stack project kind name → IsUrn text
IsUrn-from_IsMadeOf text stack project kind name h =
    rw h.text_is
    (urn_fault-read _ stack project kind name (IsRead-text_of stack project kind name h.stack_whole h.project_whole h.kind_whole)
    ∙ cond-false _ _ _ h.stack_full ∙ cond-false _ _ _ h.project_full ∙ cond-false _ _ _ h.kind_full ∙ cond-false _ _ _ h.name_full)
