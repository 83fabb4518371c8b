use Rattle.std.proofs.Common.{◌≡◌, ◌∙◌, None, reverse, ap}
use Rattle.std.specs.Bool.{nat_eq}
use Rattle.std.specs.HashMap.{get}
use Rattle.indexmap.proofs.CallerLemmas.{insert_entry-new}
use Rattle.pl_records.proofs.Keeps.{kept_reversed}
use Rattle.pl_records.proofs.Newest.{at_ok, none_there, reverse-push}
use Rattle.pl_records.proofs.index.add_kept.Goals as goal

pub returns-clause-added : goal.returns-clause-added
returns-clause-added c =
    let none : get nat_eq c.args.keeps.now c.args.goal ≡ None =
    none_there (get nat_eq c.args.keeps.now c.args.goal) (kept_reversed c.args.keeps.now.entries c.args.goal ∙ c.requires.absent) in
    ap reverse (at_ok c.insert.result (c.insert.ensures.succeeds c.requires.room) c.insert.ensures.entries
    ∙ insert_entry-new nat_eq c.args.keeps.now c.args.goal c.args.fresh none)
    ∙ reverse-push c.args.keeps.now.entries (c.args.goal, c.args.fresh)
