-- Truth values: what two of them say together.
use Rattle.std.proofs.Common.{◌≡◌, Bool, true, false, not, ◌&&◌, ◌||◌, ◌⊎◌, inl, inr, refl, sym, ◌∙◌}

pub true_or_false : (b : Bool) → (b ≡ true) ⊎ (b ≡ false)
true_or_false true = inl refl
true_or_false false = inr refl

-- ---- both

pub and_left : (a b : Bool) → (a && b) ≡ true → a ≡ true
and_left true b h = refl
and_left false b h = h

pub and_right : (a b : Bool) → (a && b) ≡ true → b ≡ true
and_right true b h = h
and_right false b h = absurd cc

pub and_not : (a b : Bool) → a ≡ true → b ≡ false → (a && not b) ≡ true
and_not a true h k = absurd (let e : true ≡ false = k in cc)
and_not true false h k = refl
and_not false false h k = h

-- where both do not hold and the first does, the second fails
pub and_fails : (a b : Bool) → (a && b) ≡ false → a ≡ true → b ≡ false
and_fails true b h is = h
and_fails false b h is = absurd (let e : false ≡ true = is in cc)

-- ---- either

-- where neither holds, the first does not
pub neither_left : (a b : Bool) → (a || b) ≡ false → a ≡ false
neither_left true b h = absurd (let e : true ≡ false = h in cc)
neither_left false b h = refl

pub neither_right : (a b : Bool) → (a || b) ≡ false → b ≡ false
neither_right true b h = absurd (let e : true ≡ false = h in cc)
neither_right false b h = h

-- where one of two holds and the second does not, the first does
pub or_first : (a b : Bool) → (a || b) ≡ true → b ≡ false → a ≡ true
or_first true b h none = refl
or_first false b h none = cc

pub or_either : (a b c : Bool) → (a || (b || c)) ≡ ((a || b) || c)
or_either true b c = refl
or_either false b c = refl
