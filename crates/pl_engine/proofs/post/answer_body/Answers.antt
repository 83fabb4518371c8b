use Rattle.std.proofs.Common.{◌≤◌, ℕ, None, [], List, sym, ◌∙◌, ap, subst}
use Rattle.pl_world.specs.declared.frames.TheConstants.{MAX_BODY}
use Rattle.pl_events.specs.declared.event.Answer.{Answer}
use Rattle.pl_events.specs.declared.event.Answer.TheVariants.{Registered}
use Rattle.pl_events.specs.declared.event.Stop.TheVariants.{MessageTooLong}
use Rattle.pl_host_msg.specs.Answer.{answer_text}
use Rattle.std.proofs.Common.{length}
use Rattle.pl_events.specs.Halted.{halted}
use Rattle.pl_engine.specs.Journal.{run_of}
use Rattle.pl_engine.proofs.Answering.{IsBody-answer, IsBody-if, answer_of-fits, answer_of-stopped, answer_of-too_long, over_limit, text-if, too_long-free, too_long-result}
use Rattle.pl_engine.proofs.post.answer_body.Goals as goal

pub returns-in_default-clause-body : goal.returns-in_default-clause-body
returns-in_default-clause-body c = IsBody-if c.args.n halted c.halted_bytes.result c.halted_bytes.ensures.bytes c.halted_bytes.ensures.fits

pub returns-in-Ok-clause-body : goal.returns-in-Ok-clause-body
returns-in-Ok-clause-body c = IsBody-answer c.args.n (Registered c.in-Some.urn None []) c.in-Ok.body c.in-Ok.ensures.bytes c.in-Ok.ensures.fits

pub returns-in-Ok-clause-answer : goal.returns-in-Ok-clause-answer
returns-in-Ok-clause-answer c =
    c.in-Ok.ensures.bytes ∙ ap (λ (a : Answer). answer_text c.args.n a)
    (sym (answer_of-fits (run_of c.args.journal.now) c.args.journal.now.history c.args.n c.in-Some.urn (c.requires.result ∙ c.in-Some.is)
    (subst (λ (b : List ℕ). length b ≤ MAX_BODY) c.in-Ok.ensures.bytes c.in-Ok.ensures.fits)))

pub stop-requires-clause-fits : goal.stop-requires-clause-fits
stop-requires-clause-fits c = λ _. record {
  some_post = (
    c.args.n,
    c.requires.due,
    too_long-free (run_of c.args.journal.now) c.args.journal.now.history c.args.n (sym c.requires.consistent.halted ∙ c.if-journal.false)
        (too_long-result (run_of c.args.journal.now) c.args.journal.now.history c.args.n c.in-Some.urn (c.requires.result ∙ c.in-Some.is)
        (over_limit c.in-Err-TooLong.field-0 c.in-Err-TooLong.field-0-0 c.args.n (Registered c.in-Some.urn None []) c.in-Err-TooLong.field-0-is c.in-Err-TooLong.ensures.too_long c.in-Err-TooLong.ensures.over)),
  );
}

pub returns-then-journal-clause-body : goal.returns-then-journal-clause-body
returns-then-journal-clause-body c =
    IsBody-if c.args.n halted c.halted_bytes-then-journal.result c.halted_bytes-then-journal.ensures.bytes c.halted_bytes-then-journal.ensures.fits

pub returns-then-journal-clause-answer : goal.returns-then-journal-clause-answer
returns-then-journal-clause-answer c =
    text-if c.args.n _ c.halted_bytes-then-journal.result
    (answer_of-too_long (run_of c.args.journal.now) c.args.journal.now.history c.args.n (sym c.requires.consistent.halted ∙ c.if-journal.true)
    (too_long-result (run_of c.args.journal.now) c.args.journal.now.history c.args.n c.in-Some.urn (c.requires.result ∙ c.in-Some.is)
    (over_limit c.in-Err-TooLong.field-0 c.in-Err-TooLong.field-0-0 c.args.n (Registered c.in-Some.urn None []) c.in-Err-TooLong.field-0-is c.in-Err-TooLong.ensures.too_long c.in-Err-TooLong.ensures.over)))
    c.halted_bytes-then-journal.ensures.bytes

pub returns-else-journal-clause-body : goal.returns-else-journal-clause-body
returns-else-journal-clause-body c = IsBody-if c.args.n halted c.halted_bytes-in-Err-TooLong.result c.halted_bytes-in-Err-TooLong.ensures.bytes c.halted_bytes-in-Err-TooLong.ensures.fits

pub returns-else-journal-clause-answer : goal.returns-else-journal-clause-answer
returns-else-journal-clause-answer c =
    text-if c.args.n _ c.halted_bytes-in-Err-TooLong.result
    (answer_of-stopped (run_of c.args.journal.now) MessageTooLong c.args.journal.now.stopped c.args.journal.now.history c.stop.new.self.history c.args.n
    c.stop.ensures.history (λ stopped. sym c.requires.consistent.halted ∙ c.requires.consistent.halting stopped)
    (too_long-result (run_of c.args.journal.now) c.args.journal.now.history c.args.n c.in-Some.urn (c.requires.result ∙ c.in-Some.is)
    (over_limit c.in-Err-TooLong.field-0 c.in-Err-TooLong.field-0-0 c.args.n (Registered c.in-Some.urn None []) c.in-Err-TooLong.field-0-is c.in-Err-TooLong.ensures.too_long c.in-Err-TooLong.ensures.over)))
    c.halted_bytes-in-Err-TooLong.ensures.bytes
