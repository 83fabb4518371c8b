use Rattle.std.proofs.Common.{◌≡◌, ◌≤◌, ◌∙◌, subst, sym, List, ℕ, length}
use Rattle.pl_events.specs.Halted.{halted}
use Rattle.pl_host_msg.specs.Answer.{answer_text}
use Rattle.pl_world.specs.declared.frames.TheConstants.{MAX_BODY}
use Rattle.pl_host_msg.proofs.Texts.{answer_text_from, halted_fits}
use Rattle.pl_host_msg.proofs.answer.halted_bytes.Goals as goal

pub returns-clause-bytes : goal.returns-clause-bytes
returns-clause-bytes c = c.from_vec.ensures ∙ answer_text_from c.args.n halted _ _ c.in_ok-value.ensures c.in_ok-to_vec.ensures.text

pub returns-clause-fits : goal.returns-clause-fits
returns-clause-fits c =
    let is : c.from_vec.result ≡ answer_text c.args.n halted = c.from_vec.ensures ∙ answer_text_from c.args.n halted _ _ c.in_ok-value.ensures c.in_ok-to_vec.ensures.text in
    let Fits : List ℕ → Type 0 = λ text. length text ≤ MAX_BODY in
    subst Fits (sym is) (halted_fits c.args.n c.ranges.n.fits)
