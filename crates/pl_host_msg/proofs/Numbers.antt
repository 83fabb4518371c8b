-- What a caller knows of a word that was read.
use Rattle.std.proofs.Common.{◌≡◌, ℕ, ◌^◌, ◌≤◌, ◌&&◌, not, nat_eq, nat_le, cond, List, codes, Bool, true, false, Option, Some, None, option_map, refl, sym, ap, ◌∙◌, arith, tests}
use Rattle.std.proofs.lemmas.Bool.{not-true}
use Rattle.pl_urn.specs.Grammar.{is_provider_type}
use Rattle.serde_json.specs.Data.{Data}
use Rattle.pl_lemmas.proofs.Options.{then_some}
use Rattle.pl_state.specs.Component.{plain_registration}
use Rattle.pl_state.specs.declared.goal.Registration.{Registration}
use Rattle.pl_events.specs.declared.event.Request.{Request}
use Rattle.pl_events.specs.declared.event.Request.TheVariants.{Register}
use Rattle.pl_host_msg.specs.declared.word.HostWord.TheVariants.{Request as Asks, Success}
use Rattle.pl_json.specs.Texts.{json_of}
use Rattle.pl_members.specs.Field.{present, text, whole}
use Rattle.pl_host_msg.specs.Field.{plain_type, request_number, optional_text, if_passing}
use Rattle.pl_host_msg.specs.Word.{has_defaults, register_of, word_of, word_of_data}

passed : {A : Type 0} (test : A → Bool) (b : Bool) (x y : A) → test x ≡ b → cond b (Some x) None ≡ Some y → test y ≡ true
passed test true x y is e = let same : x ≡ y = cc in ap test (sym same) ∙ is
passed test false x y is e = absurd cc

request_number_in_range : (value : Option Data) (n : ℕ) → request_number value ≡ Some n → (1 ≤ n) × (n ≤ 2 ^ 53)
request_number_in_range value n e =
    let step = then_some (if_passing (λ n. nat_le 1 n && nat_le n (2 ^ 53))) (whole value) n e in
    let ok = passed (λ n. nat_le 1 n && nat_le n (2 ^ 53)) _ step.0 n refl step.2 in
    (grind (arith, tests), grind (arith, tests))

-- the request that a registration's word is for
pub request_called : (done register : Bool) (read : Option Request) (request : Request)
    → cond done (Some Success) (cond register (option_map Asks read) None) ≡ Some (Asks request) → read ≡ Some request
request_called true register read request e = absurd cc
request_called false true None request e = absurd cc
request_called false true (Some r) request e = cc
request_called false false read request e = absurd cc

same_number : (b : Bool) (n m : ℕ) (read told : Registration) → cond b (Some (Register n read)) None ≡ Some (Register m told) → n ≡ m
same_number true n m read told e = cc
same_number false n m read told e = absurd cc

register_of-number : (message : Data) (n : ℕ) (told : Registration) → register_of message ≡ Some (Register n told) → request_number (present (codes "n") message) ≡ Some n
unfolding register_of
register_of-number message n told e =
    let number = then_some _ (request_number (present (codes "n") message)) _ e in
    let kind = then_some _ (plain_type (present (codes "type") message)) _ number.2 in
    let name = then_some _ (text (present (codes "name") message)) _ kind.2 in
    let parent = then_some _ (optional_text (present (codes "parent") message)) _ name.2 in
    number.1 ∙ ap Some (same_number (has_defaults message) _ _ _ _ parent.2)

-- the number of a request that was read is one from 1 to 2^53
pub word_number_in_range : (bytes : List ℕ) (n : ℕ) (told : Registration) → word_of bytes ≡ Some (Asks (Register n told)) → (1 ≤ n) × (n ≤ 2 ^ 53)
unfolding word_of word_of_data
word_number_in_range bytes n told e =
    let read = then_some word_of_data (json_of bytes) _ e in
    let called = then_some _ (text (present (codes "call") read.0)) _ read.2 in
    let request = request_called _ _ (register_of read.0) (Register n told) called.2 in
    request_number_in_range (present (codes "n") read.0) n (register_of-number read.0 n told request)

-- the type of a registration that was read is the one that its message has
same_kind : (b : Bool) (n m : ℕ) (kind name : List ℕ) (parent : Option (List ℕ)) (told : Registration)
    → cond b (Some (Register n (plain_registration kind name parent))) None ≡ Some (Register m told) → kind ≡ told.kind
same_kind true n m kind name parent told e =
    let same : plain_registration kind name parent ≡ told = cc in ap (λ (one : Registration). one.kind) same
same_kind false n m kind name parent told e = absurd cc

register_of-kind : (message : Data) (n : ℕ) (told : Registration) → register_of message ≡ Some (Register n told) → plain_type (present (codes "type") message) ≡ Some told.kind
unfolding register_of
register_of-kind message n told e =
    let number = then_some _ (request_number (present (codes "n") message)) _ e in
    let kind = then_some _ (plain_type (present (codes "type") message)) _ number.2 in
    let name = then_some _ (text (present (codes "name") message)) _ kind.2 in
    let parent = then_some _ (optional_text (present (codes "parent") message)) _ name.2 in
    kind.1 ∙ ap Some (same_kind (has_defaults message) number.0 n kind.0 name.0 parent.0 told parent.2)

plain_type-other : (value : Option Data) (kind : List ℕ) → plain_type value ≡ Some kind → is_provider_type kind ≡ false
plain_type-other value kind e =
    let step = then_some (if_passing (λ kind. not (is_provider_type kind))) (text value) kind e in
    not-true (is_provider_type kind)
    (passed (λ kind. not (is_provider_type kind)) _ step.0 kind refl step.2)

-- the type of a registration that was read is no provider's
pub word_type_plain : (bytes : List ℕ) (n : ℕ) (told : Registration) → word_of bytes ≡ Some (Asks (Register n told))
    → is_provider_type told.kind ≡ false
unfolding word_of word_of_data
word_type_plain bytes n told e =
    let read = then_some word_of_data (json_of bytes) _ e in
    let called = then_some _ (text (present (codes "call") read.0)) _ read.2 in
    let request = request_called _ _ (register_of read.0) (Register n told) called.2 in
    plain_type-other (present (codes "type") read.0) told.kind (register_of-kind read.0 n told request)
