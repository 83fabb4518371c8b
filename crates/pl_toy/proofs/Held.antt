-- What stands under an id among pairs that are changed.
use Rattle.std.proofs.Common.{◌≡◌, ℕ, Bool, true, false, not, cond, ◌⊎◌, inl, inr, List, [], ◌∷◌, ◌++◌, filter, find, Option, option_map, Some, None, is_none, bytes_eq, refl, sym, ap, ◌∙◌}
use Rattle.std.proofs.Math.Path.{fun_ext}
use Rattle.std.proofs.lemmas.Bool.{cases_Bool, false≢true}
use Rattle.std.proofs.lemmas.List.Folds.{find-append}
use Rattle.std.proofs.lemmas.Slice.Eq.{bytes_eq-Decides}
use Rattle.std.specs.Option.{option_or}
use Rattle.pl_lemmas.proofs.Options.{mapped_or, or_none}
use Rattle.pl_value.specs.Keys.{value_at}
use Rattle.pl_toy.specs.Things.{Things, held_by, with_thing, with_new, without_thing}

-- things as they are kept
abbrev pub Kept : Type 0
Kept = List (List ℕ × List ℕ)

-- those of other ids
abbrev pub others : List ℕ → Kept → Kept
others id xs = filter (λ thing. not (bytes_eq thing.0 id)) xs

value_at-cons : (key : List ℕ) (pair : List ℕ × List ℕ) (more : Kept) → value_at key (pair ∷ more) ≡ cond (bytes_eq pair.0 key) (Some pair.1) (value_at key more)
value_at-cons key pair more =
    elim (bytes_eq pair.0 key) as (λ b. option_map (λ (p : List ℕ × List ℕ). p.1) (cond b (Some pair) (find (λ p. bytes_eq p.0 key) more)) ≡ cond b (Some pair.1) (value_at key more)) [
      | true ↦ refl
      | false ↦ refl
    ]

none_twice : {X : Type 0} (b : Bool) (x : X) (v : Option X) → cond b None v ≡ cond b None (cond b (Some x) v)
none_twice true x v = refl
none_twice false x v = refl

none_anyhow : (b : Bool) (v : Option (List ℕ)) → v ≡ None → v ≡ cond b None v
none_anyhow true v none = none
none_anyhow false v none = refl

-- two ids that differ are not both the same as a third
swapped : {X : Type 0} (a b : Bool) (x : X) (v : Option X) → (a ≡ true → b ≡ false) → cond a (Some x) (cond b None v) ≡ cond b None (cond a (Some x) v)
swapped true true x v apart = absurd (false≢true (sym (apart refl)))
swapped true false x v apart = refl
swapped false b x v apart = refl

apart_from : (one id other : List ℕ) → bytes_eq one id ≡ false → bytes_eq one other ≡ true → bytes_eq id other ≡ false
apart_from one id other differs same =
    elim (cases_Bool (bytes_eq id other)) [
      | inl equal ↦ absurd (false≢true (sym differs ∙ (bytes_eq-Decides one id).1 ((bytes_eq-Decides one other).0 same ∙ sym ((bytes_eq-Decides id other).0 equal))))
      | inr other_one ↦ other_one
    ]

value_at-others : (id other : List ℕ) (xs : Kept) → value_at other (others id xs) ≡ cond (bytes_eq id other) None (value_at other xs)
value_at-others id other [] = none_anyhow (bytes_eq id other) (value_at other []) refl
value_at-others id other (x ∷ xs) =
    elim (cases_Bool (bytes_eq x.0 id)) [
      | inl same ↦
          ap (λ (b : Bool). value_at other (cond (not b) (x ∷ others id xs) (others id xs))) same
          ∙ value_at-others id other xs
          ∙ none_twice (bytes_eq id other) x.1 (value_at other xs)
          ∙ ap (λ (key : List ℕ). cond (bytes_eq id other) None (cond (bytes_eq key other) (Some x.1) (value_at other xs))) (sym ((bytes_eq-Decides x.0 id).0 same))
          ∙ ap (λ (v : Option (List ℕ)). cond (bytes_eq id other) None v) (sym (value_at-cons other x xs))
      | inr differs ↦
          ap (λ (b : Bool). value_at other (cond (not b) (x ∷ others id xs) (others id xs))) differs
          ∙ value_at-cons other x (others id xs)
          ∙ ap (λ (v : Option (List ℕ)). cond (bytes_eq x.0 other) (Some x.1) v) (value_at-others id other xs)
          ∙ swapped (bytes_eq x.0 other) (bytes_eq id other) x.1 (value_at other xs) (apart_from x.0 id other differs)
          ∙ ap (λ (v : Option (List ℕ)). cond (bytes_eq id other) None v) (sym (value_at-cons other x xs))
    ]

or_last : (b : Bool) (x : List ℕ) (v : Option (List ℕ)) → option_or (cond b None v) (cond b (Some x) None) ≡ cond b (Some x) v
or_last true x v = refl
or_last false x v = or_none v

value_at-last : (id bytes other : List ℕ) (xs : Kept) → value_at other (others id xs ++ (id, bytes) ∷ []) ≡ cond (bytes_eq id other) (Some bytes) (value_at other xs)
value_at-last id bytes other xs =
    let test : List ℕ × List ℕ → Bool = λ p. bytes_eq p.0 other in
    ap (option_map (λ (p : List ℕ × List ℕ). p.1)) (find-append test (others id xs) ((id, bytes) ∷ []))
    ∙ mapped_or (λ (p : List ℕ × List ℕ). p.1) (find test (others id xs)) (find test ((id, bytes) ∷ []))
    ∙ ap (λ (v : Option (List ℕ)). option_or v (value_at other ((id, bytes) ∷ []))) (value_at-others id other xs)
    ∙ ap (λ (v : Option (List ℕ)). option_or (cond (bytes_eq id other) None (value_at other xs)) v) (value_at-cons other (id, bytes) [])
    ∙ or_last (bytes_eq id other) bytes (value_at other xs)

-- once a thing was taken away
pub held-others : (id : List ℕ) (xs ys : Kept) → ys ≡ others id xs → held_by ys ≡ without_thing id (held_by xs)
held-others id xs ys taken = ap held_by taken ∙ fun_ext (λ other. value_at-others id other xs)

-- once a thing was put there
pub held-put : (id bytes : List ℕ) (xs ys : Kept) → ys ≡ others id xs ++ (id, bytes) ∷ [] → held_by ys ≡ with_thing id bytes (held_by xs)
held-put id bytes xs ys put = ap held_by put ∙ fun_ext (λ other. value_at-last id bytes other xs)

-- a new thing is put there
pub with_new-none : (id bytes : List ℕ) (held : Things) → is_none (held id) ≡ true → with_new id bytes held ≡ with_thing id bytes held
with_new-none id bytes held none = ap (λ (b : Bool). cond b (with_thing id bytes held) held) none

-- where something is there nothing changes
pub with_new-some : (id bytes : List ℕ) (held : Things) → is_none (held id) ≡ false → with_new id bytes held ≡ held
with_new-some id bytes held some = ap (λ (b : Bool). cond b (with_thing id bytes held) held) some
