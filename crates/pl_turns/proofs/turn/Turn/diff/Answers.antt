use Rattle.std.proofs.Common.{◌≡◌, ◌∙◌, true, false, Option, Some, None, option_map, sym, ap}
use Rattle.pl_events.specs.declared.operation.Op.TheVariants as op
use Rattle.pl_events.specs.declared.operation.Subject.TheVariants as subject
use Rattle.pl_state.specs.declared.goal.Diffed.{Diffed}
use Rattle.pl_model.specs.Decisions as spec
use Rattle.pl_model.specs.Tickets.{reply_to}
use Rattle.pl_turns.specs.Seen.{seen_turn}
use Rattle.pl_turns.proofs.Turns.{diff_asked}
use Rattle.pl_turns.proofs.turn.Turn.diff.Goals as goal

pub returns-in-None : goal.returns-in-None
returns-in-None c =
    let wants : spec.wants_diff (seen_turn c.args.self.now) ≡ true = sym c.wants_diff.ensures ∙ c.if-not-wants_diff.false in
    let known : spec.is_provider_unknown (seen_turn c.args.self.now) ≡ false = sym c.is_provider_unknown.ensures ∙ c.if-is_provider_unknown.false in
    let replied : spec.diffed_in (reply_to c.args.self.now.errands.now.tickets.answers (op.Diff (subject.Goal c.args.self.now.number))) ≡ None =
    ap spec.diffed_in (sym c.reply_to-reply.ensures) ∙ sym c.in-None.ensures in
    sym (diff_asked c.args.self.now wants known ∙ ap (λ (o : Option Diffed). option_map Some o) replied)

pub returns-in_ok-copy-in-Some : goal.returns-in_ok-copy-in-Some
returns-in_ok-copy-in-Some c =
    let wants : spec.wants_diff (seen_turn c.args.self.now) ≡ true = sym c.wants_diff.ensures ∙ c.if-not-wants_diff.false in
    let known : spec.is_provider_unknown (seen_turn c.args.self.now) ≡ false = sym c.is_provider_unknown.ensures ∙ c.if-is_provider_unknown.false in
    let replied : spec.diffed_in (reply_to c.args.self.now.errands.now.tickets.answers (op.Diff (subject.Goal c.args.self.now.number))) ≡ Some c.in-Some.diff.now =
    ap spec.diffed_in (sym c.reply_to-reply.ensures) ∙ sym c.in-Some.ensures in
    ap (λ (diff : Diffed). Some (Some diff)) c.in_ok-copy-in-Some.ensures
    ∙ sym (diff_asked c.args.self.now wants known ∙ ap (λ (o : Option Diffed). option_map Some o) replied)
