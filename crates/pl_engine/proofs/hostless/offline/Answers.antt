use Rattle.std.proofs.Common.{◌≡◌, ◌∙◌, ap, subst, Bool, [], Some, map, string_bytes, if◌then◌else◌}
use Rattle.pl_cli.specs.declared.command.Command.{Command}
use Rattle.pl_cli.specs.Command.{IfState, name_of}
use Rattle.pl_cli.specs.Reading.{engine_words, work_given}
use Rattle.pl_decide.specs.declared.outcome.Outcome.TheVariants.{BadWords}
use Rattle.pl_world.specs.Counts.{Rose}
use Rattle.pl_engine.specs.Printed.{IsShown, told_line}
use Rattle.pl_engine.proofs.Printing.{printed-refused, printed-served}
use Rattle.pl_engine.proofs.hostless.offline.Goals as goal

pub returns-in-Ok-State-clause-printed : goal.returns-in-Ok-State-clause-printed
returns-in-Ok-State-clause-printed g c = λ other.
    printed-served (map string_bytes c.args.words.now) c.in-Ok-State.work (g.S.Store.story c.args.world.store)
    (Rose (g.S.Store.faults c.args.world.store) (g.S.Store.faults c.serve_state.result.world.store)) _ c.serve_state.result.run.wanted _ _ c.serve_state.result.outcome
    (record {
      accepted = c.in-Ok-State.ensures.accepted;
      command = c.in-Ok-State.ensures.command ∙ ap (λ (command : Command). Some (name_of command)) c.in-Ok-State.field-0-is;
    })
    (subst (λ (command : Command). IfState (λ work. work_given (engine_words (map string_bytes c.args.words.now)) ≡ Some work) command)
    c.in-Ok-State.field-0-is c.in-Ok-State.ensures.work)
    c.serve_state.ensures.served

pub returns-in-Err-BadWords-clause-printed : goal.returns-in-Err-BadWords-clause-printed
returns-in-Err-BadWords-clause-printed g c = λ other.
    printed-refused (map string_bytes c.args.words.now) (g.S.Store.story c.args.world.store) _ c.stop.result.run.wanted _ _ c.in-Err-BadWords.place c.stop.result.outcome
    c.stop.ensures.outcome
    (subst (λ (b : Bool). IsShown (Rose (g.W.Sink.faults c.args.world.sink) (g.W.Sink.faults c.stop.result.world.sink)) c.stop.result.run.wanted
    (g.W.Sink.written c.args.world.sink) (g.W.Sink.written c.stop.result.world.sink) (if b then told_line (BadWords c.in-Err-BadWords.place) else []))
    c.spells_state-tells.ensures c.stop.ensures.shown)
