use Rattle.pl_engine.specs.Journal.{run_of}
use Rattle.pl_engine.proofs.Basing.{base-begun, run-begun}
use Rattle.pl_engine.proofs.Evident.{served-as, served-over, some-and}
use Rattle.pl_engine.proofs.start.run_host.Goals as goal

pub returns-clause-base : goal.returns-clause-base
returns-clause-base g c =
    base-begun c.new-journal.result c.serve.new.journal c.args.state c.close-run.result.run.base c.requires.state c.new-journal.ensures.state c.serve.ensures.over.consistent c.close-run.ensures.base

pub returns-clause-evidence : goal.returns-clause-evidence
returns-clause-evidence g c =
    let begun = base-begun c.new-journal.result c.serve.new.journal c.args.state c.close-run.result.run.base c.requires.state c.new-journal.ensures.state c.serve.ensures.over.consistent c.close-run.ensures.base in
    let same = run-begun c.new-journal.result c.args.state c.close-run.result.run.base c.args.stack c.args.project
    c.new-journal.ensures.state c.new-journal.ensures.stack c.new-journal.ensures.project begun in
    some-and _ _ _ _ c.close-run.ensures.host
    (served-as (run_of c.new-journal.result) _ _ _ c.serve.new.journal.history _ c.serve.new.journal.marks.items _ c.serve.new.journal.wanted _ _ _
    same c.close-run.ensures.history c.close-run.ensures.marks c.close-run.ensures.wanted
    (served-over c.new-journal.result c.serve.new.journal c.serve.new.writing.failed _ _ _ c.close-run.result.outcome _ _ _ _ _ _ _ _
    c.requires.reading c.requires.writing c.new-journal.ensures.history c.new-journal.ensures.marks c.serve.ensures.over
    c.serve.ensures.taken c.serve.ensures.written c.serve.ensures.stored c.serve.ensures.ends_fit
    c.serve.ensures.store_caused c.serve.ensures.answers_caused c.serve.ensures.end_caused
    c.close-run.ensures.outcome c.serve.ensures.given_stays c.serve.ensures.taken_stays))
