-- The state that a run begins with, and what the store's content reads as.
use Rattle.std.proofs.Common.{◌≡◌, ℕ, List, [], sym, ◌∙◌, ap}
use Rattle.pl_state.specs.declared.snapshot.Snapshot.{Snapshot}
use Rattle.pl_engine.specs.Content.{HasNothing}
use Rattle.pl_engine.specs.Headline.{run_over}
use Rattle.pl_engine.specs.Journal.{Consistent, run_of}
use Rattle.pl_engine.specs.declared.journal.Journal.{Journal}

-- ---- the run of a journal

-- a journal that was just made is one of the run over its state
pub run-begun : (journal : Journal) (state base : Snapshot) (stack project : List ℕ) → journal.state ≡ state → journal.stack ≡ stack → journal.project ≡ project
    → base ≡ state → run_of journal ≡ run_over stack project base
run-begun journal state base stack project theirs named owned is =
    ap (λ (stack : List ℕ). record { stack = stack; project = journal.project; name = journal.state.stack; rest = journal.state.rest }) named
    ∙ ap (λ (project : List ℕ). record { stack = stack; project = project; name = journal.state.stack; rest = journal.state.rest }) owned
    ∙ ap (λ (state : Snapshot). run_over stack project state) (theirs ∙ sym is)

-- without its entries, the state at the end is the state at the start
pub base-begun : (first last : Journal) (state base : Snapshot) → HasNothing state → first.state ≡ state → Consistent (run_of first) last
    → base ≡ record last.state { entries = [] } → base ≡ state
base-begun first last state base nothing theirs consistent is =
    is ∙ ap (λ (s : Snapshot). record s { entries = [] }) consistent.state
    ∙ ap (λ (s : Snapshot). record s { entries = []; pending = [] }) theirs ∙ sym nothing
