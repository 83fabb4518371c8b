-- What is read as an object of values stands in an object that is no secret, and no value in it is too deep; a list or a
-- text that has to have something in it has.
use Rattle.std.proofs.Common.{◌≡◌, ◌≤◌, ℕ, Bool, true, false, not, List, [], ◌∷◌, Option, Some, None, option_map, option_and_then, Result, Ok, Err, refl, sym, ap, ◌∙◌, arith, tests}
use Rattle.std.specs.Result.{result_map_both, result_ok}
use Rattle.serde_json.specs.Data.{Data, null, boolean, number, string, array, object, Members}
use Rattle.pl_json.specs.Read.{deepest, fields_of, is_marked, members_read, read_in, secret_read, unless_secret_by}
use Rattle.pl_json.proofs.Shallow.{deepest-is, shallow-members}
use Rattle.pl_lemmas.specs.Words.{has_none}
use Rattle.pl_value.specs.Inside.{greatest_field_depth}
use Rattle.pl_value.specs.declared.json.JsonFault.{JsonFault}
use Rattle.pl_events.specs.Replies.{are_shallow, are_shallow_if_there}
use Rattle.pl_members.specs.Field.{Pairs, nonempty_text, pairs, pairs_if_there, pairs_of, text, unless_none}

some_there : {X : Type 0} (xs found : List X) → unless_none xs ≡ Some found → not (has_none found) ≡ true
some_there [] found is = cc
some_there (x ∷ xs) found is = let same : (x ∷ xs) ≡ found = cc in ap (λ ys. not (has_none ys)) (sym same)

pub some_list : {X : Type 0} (o : Option (List X)) (found : List X) → option_and_then unless_none o ≡ Some found → not (has_none found) ≡ true
some_list None found is = cc
some_list (Some xs) found is = some_there xs found is

not_deep : (fields : Pairs) → greatest_field_depth fields ≤ 64 → are_shallow fields ≡ true
not_deep fields shallow = grind (arith, tests)

no_secret : {A : Type 0} (told : Result A JsonFault) (found : Pairs) → result_ok (fields_of [] (result_map_both (λ secret. None) (λ fault. fault) told)) ≡ Some found → ⊥
no_secret (Ok secret) found is = cc
no_secret (Err fault) found is = cc

plain_read : (told : Result Pairs JsonFault) (found : Pairs) → result_ok (fields_of [] (result_map_both Some (λ fault. fault) told)) ≡ Some found → told ≡ Ok found
plain_read (Ok fields) found is = cc
plain_read (Err fault) found is = cc

-- the fields were read as those of an object that is no secret
pub plain_object : (ms : Members) (marked : Result Bool JsonFault) (found : Pairs) → result_ok (fields_of [] (unless_secret_by ms marked)) ≡ Some found → marked ≡ Ok false
plain_object ms (Ok true) found is = absurd (no_secret (secret_read (read_in deepest) ms) found is)
plain_object ms (Ok false) found is = refl
plain_object ms (Err fault) found is = cc

pub plain_only : (ms : Members) (marked : Result Bool JsonFault) (found : Pairs) → result_ok (fields_of [] (unless_secret_by ms marked)) ≡ Some found → members_read (read_in deepest) ms ≡ Ok found
plain_only ms (Ok true) found is = absurd (no_secret (secret_read (read_in deepest) ms) found is)
plain_only ms (Ok false) found is = plain_read (members_read (read_in deepest) ms) found is
plain_only ms (Err fault) found is = cc

pub pairs_of-shallow : (value : Data) (found : Pairs) → pairs_of value ≡ Some found → are_shallow found ≡ true
pairs_of-shallow null found is = cc
pairs_of-shallow (boolean b) found is = cc
pairs_of-shallow (number n) found is = cc
pairs_of-shallow (string s) found is = cc
pairs_of-shallow (array ds) found is = cc
pairs_of-shallow (object ms) found is =
    let within = shallow-members deepest ms found (plain_only ms (is_marked ms) found is) in
    not_deep found (omega (arith, deepest-is))

pub pairs-shallow : (value : Option Data) (found : Pairs) → pairs value ≡ Some found → are_shallow found ≡ true
pairs-shallow None found is = cc
pairs-shallow (Some value) found is = pairs_of-shallow value found is

mapped_shallow : (o : Option Pairs) (found : Option Pairs) → ((fields : Pairs) → o ≡ Some fields → are_shallow fields ≡ true) → option_map Some o ≡ Some found → are_shallow_if_there found ≡ true
mapped_shallow None found each is = cc
mapped_shallow (Some fields) found each is =
    let same : Some fields ≡ found = cc in ap are_shallow_if_there (sym same) ∙ each fields refl

pub pairs_if_there-shallow : (value : Option Data) (found : Option Pairs) → pairs_if_there value ≡ Some found → are_shallow_if_there found ≡ true
pairs_if_there-shallow None found is = let same : None ≡ found = cc in ap are_shallow_if_there (sym same)
pairs_if_there-shallow (Some value) found is = mapped_shallow (pairs_of value) found (pairs_of-shallow value) is

pub nonempty_text-there : (value : Option Data) (found : List ℕ) → nonempty_text value ≡ Some found → not (has_none found) ≡ true
nonempty_text-there value found is = some_list (text value) found is
