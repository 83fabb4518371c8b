-- What stands in an object, as it is written. Its members stand in rising order of their names.
use Rattle.std.specs.Prelude.{ℕ, Bool, true, false, List, [], ◌∷◌, map, Option, Some, None, option_map}
use Rattle.serde_json.specs.Data.{Data, array, boolean, number, unsigned, string, object, Members, no_members, put}
use Rattle.serde_json.specs.View.{items_of}
use Rattle.pl_json.specs.Objects.{Field, object_with, unless_empty, texts_data}
use Rattle.pl_json.specs.Spelled.{spelled_fields}
use Rattle.pl_members.specs.Field.{Keyed, Pairs}

-- ---- what stands under one name

-- a text that is always written
abbrev pub one_text : List ℕ → Option Data
one_text text = Some (string text)

-- the number of a request
abbrev pub number_data : ℕ → Option Data
number_data n = Some (number (unsigned n))

-- the same, where there are some
abbrev pub list_data : List (List ℕ) → Option Data
list_data texts = unless_empty texts (texts_data texts)

-- fields of values, as an object
abbrev pub pairs_data : Pairs → Option Data
pairs_data fields = unless_empty fields (spelled_fields fields)

-- one list of texts under its key
abbrev pub keyed_field : List ℕ × List (List ℕ) → Field
keyed_field pair = (pair.0, Some (texts_data pair.1))

-- lists of texts by their keys, as an object
abbrev pub keyed_data : Keyed → Option Data
keyed_data pairs = unless_empty pairs (object_with (map keyed_field pairs))
