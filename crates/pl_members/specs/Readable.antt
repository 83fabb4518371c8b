-- The fields of values that are read back from what is written for them.
use Rattle.std.specs.Prelude.{◌≡◌, true}
use Rattle.pl_value.specs.IsValue.{AreFields}
use Rattle.pl_json.specs.Fits.{FieldsFit}
use Rattle.pl_events.specs.Replies.{are_shallow}
use Rattle.pl_members.specs.Field.{Pairs}

-- fields of values, whose whole numbers have 64 bits with a sign, and none of them is too deep
pub record AreReadable (fields : Pairs) : Type 0 where
  pub sound : AreFields fields
  pub fit : FieldsFit fields
  pub shallow : are_shallow fields ≡ true
