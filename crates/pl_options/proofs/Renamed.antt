-- A version's characters, renamed for a provider's name, are its bytes, renamed.
use Rattle.std.proofs.Common.{◌≡◌, ◌≤◌, ◌<◌, ℕ, ◌+◌, ◌/◌, Bool, true, false, cond, List, [], ◌∷◌, ◌++◌, map, ltb, sym, ap, ◌∙◌, arith, refl}
use lib.Utf8.{encode, encodes, next}
use Rattle.std.specs.Str.{IsUtf8, chars}
use Rattle.std.proofs.lemmas.Bool.Decides.{nat_tests}
use Rattle.std.proofs.lemmas.List.{map-append}
use Rattle.std.proofs.lemmas.Str.{encode_ascii, encodes-chars}
use Rattle.pl_options.specs.Names.{name_byte}

high : (b : ℕ) → 128 ≤ b → name_byte b ≡ b
high b h = grind (arith, nat_tests)

low : (b : ℕ) → b < 128 → name_byte b < 128
low b h = grind (arith, nat_tests)

either : (x : Bool) (a b : List ℕ) → map name_byte a ≡ a → map name_byte b ≡ b → map name_byte (cond x a b) ≡ cond x a b
either true a b one other = one
either false a b one other = other

high_letter : (c : ℕ) → 128 ≤ c → map name_byte (encode c) ≡ encode c
unfolding encode
high_letter c h =
    let none : ltb c 128 ≡ false = grind (arith, nat_tests) in
    rw none
    (either (ltb c 2048) _ _
    (λ i. high (192 + c / 64) (omega arith) i ∷ high (next c) (omega arith) i ∷ [])
    (either (ltb c 65536) _ _
    (λ i. high (224 + c / 4096) (omega arith) i ∷ high (next (c / 64)) (omega arith) i ∷ high (next c) (omega arith) i ∷ [])
    (λ i. high (240 + c / 262144) (omega arith) i ∷ high (next (c / 4096)) (omega arith) i ∷ high (next (c / 64)) (omega arith) i ∷ high (next c) (omega arith) i ∷ [])))

by_size : (c : ℕ) (b : Bool) → ltb c 128 ≡ b → map name_byte (encode c) ≡ encode (name_byte c)
by_size c true e =
    let small : c < 128 = grind (arith, nat_tests) in
    ap (map name_byte) (encode_ascii c small) ∙ sym (encode_ascii (name_byte c) (low c small))
by_size c false e =
    let great : 128 ≤ c = grind (arith, nat_tests) in
    high_letter c great ∙ ap encode (sym (high c great))

letter : (c : ℕ) → map name_byte (encode c) ≡ encode (name_byte c)
letter c = by_size c (ltb c 128) refl

renamed_letters : (cs : List ℕ) → encodes (map name_byte cs) ≡ map name_byte (encodes cs)
renamed_letters [] = refl
renamed_letters (c ∷ cs) =
    (λ i. sym (letter c) i ++ renamed_letters cs i) ∙ sym (map-append name_byte (encode c) (encodes cs))

-- the characters of a text, renamed, are its bytes, renamed
pub renamed_text : (text : List ℕ) → IsUtf8 text → encodes (map name_byte (chars text)) ≡ map name_byte text
renamed_text text is = renamed_letters (chars text) ∙ ap (map name_byte) (encodes-chars text is)
