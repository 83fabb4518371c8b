use Rattle.std.proofs.Common.{Bool, true, false, [], ◌||◌, ◌&&◌, not, codes, if◌then◌else◌, refl, ap}
use Rattle.pl_events.specs.declared.event.Answer.{Answer}
use Rattle.pl_model_rows.proofs.OnHistories.{on_histories}
use Rattle.pl_model_rows.proofs.Values.{unknown_is_unknown}
use Rattle.pl_model_rows.proofs.preview_equals_up.unknown_provider.Goals as goal

pub returns-clause-kept : goal.returns-clause-kept
unfolding on_histories
returns-clause-kept c = refl

pub returns-clause-unconfigured : goal.returns-clause-unconfigured
unfolding on_histories
returns-clause-unconfigured c =
    ap (λ (unknown : Bool). (not (unknown || false) && true && true && true && true || false) && true) unknown_is_unknown

pub returns-clause-configured : goal.returns-clause-configured
unfolding on_histories
returns-clause-configured c = refl

pub returns-clause-answered : goal.returns-clause-answered
unfolding on_histories
returns-clause-answered c = ap (λ (unknown : Bool). (unknown || false) || false) unknown_is_unknown

pub returns-clause-unsent : goal.returns-clause-unsent
unfolding on_histories
returns-clause-unsent c = ap (λ (unknown : Bool). not (unknown || false)) unknown_is_unknown

pub returns-clause-answer : goal.returns-clause-answer
unfolding on_histories
returns-clause-answer c =
    ap (λ (unknown : Bool). if unknown || false then Answer.Result [] else Answer.Refused (codes "halted")) unknown_is_unknown
