use Rattle.std.proofs.Common.{◌≡◌, ap, refl}
use Rattle.std.proofs.lemmas.Result.{IfOk-weaker}
use Rattle.pl_events.specs.declared.reply.Reply.TheVariants.{Checked, Diffed, Result}
use Rattle.pl_toy.proofs.Answering.{by_any}
use Rattle.pl_toy.proofs.replying.answer.Goals as goal

pub returns-in_ok-copy-in-CheckConfig-clause-by_table : goal.returns-in_ok-copy-in-CheckConfig-clause-by_table
returns-in_ok-copy-in-CheckConfig-clause-by_table g c =
    rw c.in-CheckConfig.is (by_any (g.H.Shelf.things c.args.shelf.now) _ (λ held. ap Checked c.in_ok-copy-in-CheckConfig.ensures))

pub returns-in-Configure-clause-by_table : goal.returns-in-Configure-clause-by_table
returns-in-Configure-clause-by_table g c =
    rw c.in-Configure.is (by_any (g.H.Shelf.things c.args.shelf.now) _ (λ held. refl))

pub returns-in_ok-check-in-Check-clause-by_table : goal.returns-in_ok-check-in-Check-clause-by_table
returns-in_ok-check-in-Check-clause-by_table g c =
    rw c.in-Check.is (by_any (g.H.Shelf.things c.args.shelf.now) _ (λ held. c.in_ok-check-in-Check.ensures))

pub returns-in_ok-diff-in-Diff-clause-by_table : goal.returns-in_ok-diff-in-Diff-clause-by_table
returns-in_ok-diff-in-Diff-clause-by_table g c =
    rw c.in-Diff.is (by_any (g.H.Shelf.things c.args.shelf.now) _ (λ held. ap Diffed c.in_ok-diff-in-Diff.ensures))

pub returns-in-Create-clause-done : goal.returns-in-Create-clause-done
returns-in-Create-clause-done g c = rw c.in-Create.is c.create.ensures.created

pub returns-in-Create-clause-failed_kept_or_done : goal.returns-in-Create-clause-failed_kept_or_done
returns-in-Create-clause-failed_kept_or_done g c = rw c.in-Create.is c.create.ensures.failed_kept_or_created

pub returns-in-Update-clause-by_table : goal.returns-in-Update-clause-by_table
returns-in-Update-clause-by_table g c =
    rw c.in-Update.is (IfOk-weaker c.update.result _ _ (λ reply same. by_any (g.H.Shelf.things c.args.shelf.now) _ (λ held. same)) c.update.ensures.changed)

pub returns-in-Update-clause-done : goal.returns-in-Update-clause-done
returns-in-Update-clause-done g c = rw c.in-Update.is c.update.ensures.put

pub returns-in-Update-clause-failed_kept_or_done : goal.returns-in-Update-clause-failed_kept_or_done
returns-in-Update-clause-failed_kept_or_done g c = rw c.in-Update.is c.update.ensures.failed_kept_or_put

pub returns-in-Delete-clause-by_table : goal.returns-in-Delete-clause-by_table
returns-in-Delete-clause-by_table g c =
    rw c.in-Delete.is (IfOk-weaker c.delete.result _ _ (λ reply same. by_any (g.H.Shelf.things c.args.shelf.now) _ (λ held. same)) c.delete.ensures.removed)

pub returns-in-Delete-clause-done : goal.returns-in-Delete-clause-done
returns-in-Delete-clause-done g c = rw c.in-Delete.is c.delete.ensures.taken

pub returns-in-Delete-clause-failed_kept_or_done : goal.returns-in-Delete-clause-failed_kept_or_done
returns-in-Delete-clause-failed_kept_or_done g c = rw c.in-Delete.is c.delete.ensures.failed_kept_or_taken

pub returns-in_ok-copy-in-Invoke-clause-by_table : goal.returns-in_ok-copy-in-Invoke-clause-by_table
returns-in_ok-copy-in-Invoke-clause-by_table g c =
    rw c.in-Invoke.is (by_any (g.H.Shelf.things c.args.shelf.now) _ (λ held. ap Result c.in_ok-copy-in-Invoke.ensures))
