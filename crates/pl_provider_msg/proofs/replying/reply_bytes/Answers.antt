use Rattle.std.proofs.Common.{◌≡◌, List, ℕ, IfErr, IfOk, subst, length}
use Rattle.pl_provider_msg.specs.Response.{reply_text}
use Rattle.pl_members.specs.Message.{IfTooLong}
use Rattle.pl_members.proofs.Bodies.{body_of}
use Rattle.pl_provider_msg.proofs.Texts.{reply_text-some, reply_text_from}
use Rattle.pl_provider_msg.proofs.replying.reply_bytes.Goals as goal

pub returns-clause-bytes : goal.returns-clause-bytes
returns-clause-bytes c =
    let is = reply_text_from c.args.ticket c.args.reply.now _ _ c.in_ok-reply_value.ensures c.in_ok-bytes.ensures.text in
    let Holds : List ℕ → Type 0 = λ text. IfOk c.fitting.result (λ bytes. bytes ≡ text) in
    subst Holds is c.fitting.ensures.bytes

pub returns-clause-body : goal.returns-clause-body
returns-clause-body c =
    let is = reply_text_from c.args.ticket c.args.reply.now _ _ c.in_ok-reply_value.ensures c.in_ok-bytes.ensures.text in
    let Holds : List ℕ → Type 0 = λ text. IfOk c.fitting.result (λ bytes. bytes ≡ text) in
    body_of c.fitting.result (reply_text c.args.ticket c.args.reply.now) (reply_text-some c.args.ticket c.args.reply.now) (subst Holds is c.fitting.ensures.bytes) c.fitting.ensures.fits

pub returns-clause-too_long : goal.returns-clause-too_long
returns-clause-too_long c =
    let is = reply_text_from c.args.ticket c.args.reply.now _ _ c.in_ok-reply_value.ensures c.in_ok-bytes.ensures.text in
    let Holds : List ℕ → Type 0 = λ text. IfErr c.fitting.result (λ error. IfTooLong error (λ len. len ≡ length text)) in
    subst Holds is c.fitting.ensures.too_long
