-- Where each number in some data is whole, none is a float.
use Rattle.std.proofs.Common.{◌≡◌, true, false, refl}
use Rattle.serde_json.specs.Data.{Num, unsigned, negative, float, Data, null, boolean, number, string, array, object, Items, no_items, item, Members, no_members, member}
use Rattle.serde_json.specs.Find.{is_float}
use Rattle.serde_json.specs.Written.{has_float, items_have_float, members_have_float}
use Rattle.std.proofs.lemmas.Bool.{or_from}
use Rattle.pl_lemmas.proofs.Truth.{and_left, and_right}
use Rattle.pl_checkpoint_text.specs.Formed.{has_wholes, is_whole, items_have_wholes, members_have_wholes}

whole-no_float : (n : Num) → is_whole n ≡ true → is_float n ≡ false
whole-no_float (unsigned n) h = refl
whole-no_float (negative z) h = refl
whole-no_float (float x) h = absurd (cc)

mutual
  pub wholes-no_float : (d : Data) → has_wholes d ≡ true → has_float d ≡ false
  wholes-no_float null h = refl
  wholes-no_float (boolean b) h = refl
  wholes-no_float (number n) h = whole-no_float n h
  wholes-no_float (string s) h = refl
  wholes-no_float (array ds) h = items_wholes-no_float ds h
  wholes-no_float (object ms) h = members_wholes-no_float ms h

  items_wholes-no_float : (ds : Items) → items_have_wholes ds ≡ true → items_have_float ds ≡ false
  items_wholes-no_float no_items h = refl
  items_wholes-no_float (item d ds) h =
      or_from (has_float d) (items_have_float ds) (wholes-no_float d (and_left (has_wholes d) (items_have_wholes ds) h))
      (items_wholes-no_float ds (and_right (has_wholes d) (items_have_wholes ds) h))

  pub members_wholes-no_float : (ms : Members) → members_have_wholes ms ≡ true → members_have_float ms ≡ false
  members_wholes-no_float no_members h = refl
  members_wholes-no_float (member k d ms) h =
      or_from (has_float d) (members_have_float ms) (wholes-no_float d (and_left (has_wholes d) (members_have_wholes ms) h))
      (members_wholes-no_float ms (and_right (has_wholes d) (members_have_wholes ms) h))
