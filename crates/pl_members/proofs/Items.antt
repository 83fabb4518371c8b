-- What is read of elements or of members, one after another.
use Rattle.std.proofs.Common.{◌≡◌, ℕ, List, [], ◌∷◌, ◌++◌, Option, Some, None, option_map, refl, sym, ap, append_assoc, string_bytes}
use Rattle.serde_json.proofs.Views.{Entry}
use Rattle.serde_json.specs.View.{view, members_view}
use Rattle.pl_members.specs.Field.{Keyed, before, each_member, texts_of}

-- these, and then what is read of the others
abbrev pub after : {X : Type 0} → List X → Option (List X) → Option (List X)
after made others = option_map (λ more. made ++ more) others

-- one more is read
pub after-next : {X : Type 0} (made : List X) (one : X) (others : Option (List X)) → after made (before (Some one) others) ≡ after (made ++ one ∷ []) others
after-next made one None = refl
after-next made one (Some more) = ap Some (sym (append_assoc made (one ∷ []) more))

-- the next list of texts is read
pub each_member-next : (e : Entry) (left : List Entry) (texts : List (List ℕ)) (made : Keyed) → texts_of (view e.1) ≡ Some texts
    → after made (each_member texts_of (members_view (e ∷ left))) ≡ after (made ++ (string_bytes e.0, texts) ∷ []) (each_member texts_of (members_view left))
each_member-next e left texts made read = rw read (after-next made (string_bytes e.0, texts) (each_member texts_of (members_view left)))
