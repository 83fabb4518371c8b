-- A registration that was read has the form of one.
use Rattle.std.proofs.Common.{◌≡◌, ℕ, ◌^◌, ◌≤◌, Bool, true, false, not, ◌&&◌, cond, List, codes, Option, Some, None, nat_lt, refl, sym, ◌∙◌, ap, arith}
use Rattle.std.proofs.lemmas.Bool.Decides.{nat_tests}
use Rattle.pl_lemmas.proofs.Options.{then_some}
use Rattle.pl_state.specs.Component.{plain_registration}
use Rattle.pl_state.specs.declared.goal.Registration.{Registration}
use Rattle.pl_events.specs.Requests.{is_formed_registration, is_formed_request, is_request_number}
use Rattle.pl_events.specs.declared.event.Request.TheVariants.{Register}
use Rattle.pl_host_msg.specs.declared.word.HostWord.TheVariants.{Request as Asks}
use Rattle.pl_json.specs.Texts.{json_of}
use Rattle.pl_members.specs.Field.{present, text}
use Rattle.pl_host_msg.specs.Field.{optional_text, plain_type, request_number}
use Rattle.pl_host_msg.specs.Word.{has_defaults, register_of, word_of, word_of_data}
use Rattle.pl_host_msg.proofs.Numbers.{request_called, word_number_in_range}

-- the registration that a message's own texts make has the form of one
formed_plain : (b : Bool) (n m : ℕ) (kind name : List ℕ) (parent : Option (List ℕ)) (told : Registration)
    → cond b (Some (Register n (plain_registration kind name parent))) None ≡ Some (Register m told) → is_formed_registration told ≡ true
formed_plain true n m kind name parent told e =
    let same : plain_registration kind name parent ≡ told = cc in ap (λ (one : Registration). is_formed_registration one) (sym same)
formed_plain false n m kind name parent told e = absurd cc

formed_told : (bytes : List ℕ) (n : ℕ) (told : Registration) → word_of bytes ≡ Some (Asks (Register n told)) → is_formed_registration told ≡ true
unfolding word_of word_of_data register_of
formed_told bytes n told e =
    let read = then_some word_of_data (json_of bytes) _ e in
    let called = then_some _ (text (present (codes "call") read.0)) _ read.2 in
    let request = request_called _ _ (register_of read.0) (Register n told) called.2 in
    let number = then_some _ (request_number (present (codes "n") read.0)) _ request in
    let kind = then_some _ (plain_type (present (codes "type") read.0)) _ number.2 in
    let name = then_some _ (text (present (codes "name") read.0)) _ kind.2 in
    let parent = then_some _ (optional_text (present (codes "parent") read.0)) _ name.2 in
    formed_plain (has_defaults read.0) number.0 n kind.0 name.0 parent.0 told parent.2

number_formed : (n : ℕ) → 1 ≤ n → n ≤ 2 ^ 53 → is_request_number n ≡ true
number_formed n low high =
    by (nat_lt 0 n) (nat_lt (2 ^ 53) n) (grind (arith, nat_tests)) (grind (arith, nat_tests))
  where
    by : (above past : Bool) → above ≡ true → past ≡ false → (above && not past) ≡ true
    by true false is none = refl
    by true true is none = absurd (let e : true ≡ false = none in cc)
    by false past is none = absurd (let e : false ≡ true = is in cc)

-- so it is with the number
pub word_formed : (bytes : List ℕ) (n : ℕ) (told : Registration) → word_of bytes ≡ Some (Asks (Register n told))
    → is_formed_request (Register n told) ≡ true
word_formed bytes n told e =
    let range = word_number_in_range bytes n told e in
    ap (λ (b : Bool). b && is_formed_registration told) (number_formed n range.0 range.1) ∙ formed_told bytes n told e
