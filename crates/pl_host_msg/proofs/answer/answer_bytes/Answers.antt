use Rattle.std.proofs.Common.{◌≡◌, List, ℕ, IfErr, IfOk, subst, length}
use Rattle.pl_members.specs.Message.{IfTooLong}
use Rattle.pl_host_msg.proofs.Texts.{answer_text_from}
use Rattle.pl_host_msg.proofs.answer.answer_bytes.Goals as goal

pub returns-clause-bytes : goal.returns-clause-bytes
returns-clause-bytes c =
    let is = answer_text_from c.args.n c.args.answer.now _ _ c.in_ok-answer_value.ensures c.in_ok-bytes.ensures.text in
    let Holds : List ℕ → Type 0 = λ text. IfOk c.fitting.result (λ bytes. bytes ≡ text) in
    subst Holds is c.fitting.ensures.bytes

pub returns-clause-too_long : goal.returns-clause-too_long
returns-clause-too_long c =
    let is = answer_text_from c.args.n c.args.answer.now _ _ c.in_ok-answer_value.ensures c.in_ok-bytes.ensures.text in
    let Holds : List ℕ → Type 0 = λ text. IfErr c.fitting.result (λ error. IfTooLong error (λ len. len ≡ length text)) in
    subst Holds is c.fitting.ensures.too_long
