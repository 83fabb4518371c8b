use Rattle.std.proofs.Common.{◌≡◌, ◌∙◌, Bool, true, not, ◌||◌, sym, ap}
use Rattle.pl_events.specs.Closing.{has_host_end}
use Rattle.pl_model.specs.Run.{has_host}
use Rattle.pl_model.specs.declared.fixed.Fixed.{Fixed}
use Rattle.pl_columns.specs.Read.{history_by}
use Rattle.pl_columns.proofs.Read.{host_read}
use Rattle.pl_columns.proofs.columns.Columns.host_ended.Goals as goal

pub returns-else-not-has_host : goal.returns-else-not-has_host
returns-else-not-has_host c =
    let has : has_host c.args.self.now.claims.run.mode ≡ true =
    ap (λ (run : Fixed). has_host run.mode) (sym c.run.ensures) ∙ sym c.has_host.ensures ∙ c.if-not-has_host.false in
    c.host_gone.ensures ∙ sym (host_read c.args.self.now)
    ∙ ap (λ (b : Bool). not b || has_host_end (history_by c.args.self.now)) (sym has)
