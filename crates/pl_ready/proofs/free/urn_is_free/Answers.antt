use Rattle.std.proofs.Common.{◌∙◌, ℕ, Option, not, sym, ap}
use Rattle.pl_columns.specs.Read.{known_by}
use Rattle.pl_lemmas.specs.Words.{none_or}
use Rattle.pl_ready.proofs.Holding.{free_by_keeper, stands}
use Rattle.pl_ready.proofs.free.urn_is_free.Goals as goal

pub returns-in-None : goal.returns-in-None
returns-in-None c =
    ap (λ (o : Option ℕ). none_or (λ row. not (stands (known_by c.args.columns.now) c.args.one.now row)) o) c.in-None.ensures
    ∙ sym (free_by_keeper (known_by c.args.columns.now) c.args.goal.now c.args.one.now c.is_sound.ensures c.requires.keepers)

pub returns-in-Some : goal.returns-in-Some
returns-in-Some c =
    ap not c.is_in_the_way.ensures
    ∙ ap (λ (o : Option ℕ). none_or (λ row. not (stands (known_by c.args.columns.now) c.args.one.now row)) o) c.in-Some.ensures
    ∙ sym (free_by_keeper (known_by c.args.columns.now) c.args.goal.now c.args.one.now c.is_sound.ensures c.requires.keepers)
