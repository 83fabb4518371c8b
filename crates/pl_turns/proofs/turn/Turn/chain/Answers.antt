use Rattle.std.proofs.Common.{◌∙◌, sym, ap}
use Rattle.std.proofs.lemmas.Result.{IfErr-weaker, on_ok_weaker}
use Rattle.pl_model.specs.Run.{rows_of}
use Rattle.pl_turns.proofs.Protecting.{protected_is, tells_protected}
use Rattle.pl_turns.proofs.turn.Turn.chain.Goals as goal

pub returns-in_ok-claimed-in-Some-clause-unprotected : goal.returns-in_ok-claimed-in-Some-clause-unprotected
returns-in_ok-claimed-in-Some-clause-unprotected c =
    on_ok_weaker c.chain.result
    (λ none. sym (protected_is c.args.self.now (rows_of c.run.result.now) c.in_ok-claimed-in-Some.claimed c.in-Some.row
    (ap rows_of c.run.ensures) c.in-Some.is c.in_ok-claimed-in-Some.ensures) ∙ none)
    c.chain.ensures.unprotected

pub returns-in_ok-claimed-in-Some-clause-refused : goal.returns-in_ok-claimed-in-Some-clause-refused
returns-in_ok-claimed-in-Some-clause-refused c =
    IfErr-weaker c.chain.result _ _
    (tells_protected c.args.self.now (rows_of c.run.result.now) c.in_ok-claimed-in-Some.claimed c.in-Some.row
    (ap rows_of c.run.ensures) c.in-Some.is c.in_ok-claimed-in-Some.ensures)
    c.chain.ensures.refused
