-- Fields that are put in one after another.
use Rattle.std.proofs.Common.{◌≡◌, ℕ, ◌<◌, ◌+◌, length, map, take, get_or, List, [], ◌∷◌, ◌++◌, refl, sym, ap, ◌∙◌}
use Rattle.std.proofs.lemmas.List.{take_more, map-append}
use Rattle.serde_json.specs.Data.{Members, put}
use Rattle.pl_json.specs.Objects.{Field, put_if_some, texts_data, with_fields}
use Rattle.pl_members.specs.Spelled.{keyed_field}
use Rattle.pl_members.specs.Field.{Keyed}
use Rattle.pl_json.proofs.Objects.{with_fields-push}

-- the next list
pub with_keyed-next : (pairs : Keyed) (place : ℕ) (pair : List ℕ × List (List ℕ)) (ms : Members) → place < length pairs → pair ≡ get_or pairs place pair
    → put pair.0 (texts_data pair.1) (with_fields (map keyed_field (take place pairs)) ms) ≡ with_fields (map keyed_field (take (place + 1) pairs)) ms
with_keyed-next pairs place pair ms within is =
    let taken : take (place + 1) pairs ≡ take place pairs ++ pair ∷ [] = take_more pairs place pair within ∙ ap (λ last. take place pairs ++ last ∷ []) (sym is) in
    sym (ap (λ ps. with_fields (map keyed_field ps) ms) taken
    ∙ ap (λ fields. with_fields fields ms) (map-append keyed_field (take place pairs) (pair ∷ []))
    ∙ with_fields-push (map keyed_field (take place pairs)) (keyed_field pair) ms)
