-- Objects of fields: a field more, no float in them, and what is written over what stood there.
use Rattle.std.proofs.Common.{◌≡◌, ℕ, Bool, true, false, ◌||◌, ◌++◌, List, [], ◌∷◌, map, Option, Some, None, Ordering, Less, Equal, Greater, refl}
use Rattle.std.proofs.lemmas.Bool.{or_parts, or_from}
use Rattle.std.specs.Cmp.Lexicographic.{slice_cmp}
use Rattle.std.specs.Ordering.{nat_cmp, match_ordering}
use Rattle.serde_json.specs.Data.{Data, string, Members, no_members, member, put}
use Rattle.serde_json.specs.View.{items_of}
use Rattle.serde_json.specs.Written.{has_float, items_have_float, members_have_float}
use Rattle.pl_json.specs.Objects.{Field, put_if_some, with_fields}

-- a field more, at the end
pub with_fields-push : (fields : List Field) (field : Field) (ms : Members) → with_fields (fields ++ field ∷ []) ms ≡ put_if_some field.0 field.1 (with_fields fields ms)
with_fields-push [] field ms = refl
with_fields-push (first ∷ more) field ms = with_fields-push more field (put_if_some first.0 first.1 ms)

either_whole : (o : Ordering) (a b c : Members) → members_have_float a ≡ false → members_have_float b ≡ false → members_have_float c ≡ false → members_have_float (match_ordering o a b c) ≡ false
either_whole Less a b c x y z = x
either_whole Equal a b c x y z = y
either_whole Greater a b c x y z = z

-- a member more without a float
pub put-whole : (name : List ℕ) (value : Data) (ms : Members) → has_float value ≡ false → members_have_float ms ≡ false → members_have_float (put name value ms) ≡ false
put-whole name value no_members none all = or_from _ _ none refl
put-whole name value (member first here more) none all =
    let parts = or_parts (has_float here) (members_have_float more) all in
    either_whole (slice_cmp nat_cmp name first) _ _ _
    (or_from _ _ none all)
    (or_from _ _ none parts.1)
    (or_from _ _ parts.0 (put-whole name value more none parts.1))

pub items-whole : (texts : List (List ℕ)) → items_have_float (items_of (map string texts)) ≡ false
items-whole [] = refl
items-whole (text ∷ more) = items-whole more

-- what is written over what stood there
abbrev pub over : Option Data → Option Data → Option Data
over None before = before
over (Some value) before = Some value

pub over_none : (value : Option Data) → over value None ≡ value
over_none None = refl
over_none (Some value) = refl
