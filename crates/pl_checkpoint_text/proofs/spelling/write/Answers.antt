use Rattle.std.proofs.Common.{map, Result, Ok, Err, IfOk, refl, sym, ap, ◌∙◌}
use Rattle.pl_checkpoint_text.specs.Pieces.{entry_text, pending_text}
use Rattle.pl_checkpoint_text.proofs.Joined.{from_ok}
use Rattle.pl_checkpoint_text.proofs.ReadLawText.{written_is_read}
use Rattle.pl_checkpoint_text.proofs.spelling.write.Goals as goal

pub returns-clause-text : goal.returns-clause-text
returns-clause-text c = from_ok c.join_text.result c.join_text.ensures.text (λ bytes joined. joined c.args.state.now record {
  stack = refl;
  rest = refl;
  entries = sym (c.in_ok-entries.ensures ∙ ap (map entry_text) c.as_slice.ensures);
  pendings = sym (c.in_ok-pendings.ensures ∙ ap (map pending_text) c.as_slice-2.ensures);
})

-- what follows from two facts of what a call gave
both : {A E : Type 0} {P Q R : A → Type 0} (result : Result A E) → IfOk result P → IfOk result Q → ((made : A) → P made → Q made → R made) → IfOk result R
both (Ok made) one other follows = follows made one other
both (Err error) one other follows = tt

pub returns-clause-read_back : goal.returns-clause-read_back
returns-clause-read_back c =
    both c.join_text.result (returns-clause-text c) c.join_text.ensures.utf8 (λ bytes text utf8. written_is_read bytes c.args.state.now text utf8)
