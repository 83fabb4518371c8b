-- A parent that is read is no empty text, and is read back from what is written for it.
use Rattle.std.proofs.Common.{◌≡◌, ◌≢◌, ℕ, List, [], ◌∷◌, Option, Some, None, option_and_then, refl, ap}
use Rattle.serde_json.specs.Data.{Data}
use Rattle.serde_json.specs.Find.{get}
use Rattle.pl_members.specs.Field.{present, text_if_there, unless_none, unless_null}
use Rattle.pl_json.specs.Objects.{text_data}
use Rattle.pl_members.proofs.Steps.{Gives, gives_map}
use Rattle.pl_host_word.specs.Parent.{parent_text}

kept_by : (found : List ℕ) → unless_none found ≢ Some []
kept_by [] is = cc
kept_by (first ∷ more) is = cc

kept_text : (found : Option (List ℕ)) → option_and_then unless_none found ≢ Some []
kept_text None is = cc
kept_text (Some found) is = kept_by found is

pub parent-good : (value : Option Data) → Gives (λ found. found ≢ Some []) (parent_text value)
parent-good value = gives_map _ (text_if_there value) (option_and_then unless_none) (λ found is. kept_text found)

pub parent-back : (name : List ℕ) (message : Data) (found : Option (List ℕ)) → get name message ≡ text_data found → found ≢ Some [] → parent_text (present name message) ≡ Some found
parent-back name message None there some = ap (λ o. parent_text (option_and_then unless_null o)) there
parent-back name message (Some []) there some = absurd (some refl)
parent-back name message (Some (first ∷ more)) there some = ap (λ o. parent_text (option_and_then unless_null o)) there
