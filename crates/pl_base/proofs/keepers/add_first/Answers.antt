use Rattle.std.proofs.Common.{ℕ, List, Some, cond, sym, ap, ◌∙◌}
use Rattle.std.proofs.lemmas.Map.Text.{btree_map_updates_text}
use Rattle.std.specs.BTreeMap.{get_by_text}
use Rattle.std.specs.Str.{bytes_eq}
use Rattle.std.specs.String.{string_bytes}
use Rattle.pl_base.proofs.Keeping.{stands_first}
use Rattle.pl_base.proofs.keepers.add_first.Goals as goal

pub returns : goal.returns
returns c =
    stands_first (get_by_text c.args.keepers.now) (get_by_text c.insert.new.self) c.args.urn.now c.args.place
    (sym c.contains_key.ensures ∙ c.if-contains_key.false)
    (λ other.
    btree_map_updates_text (string_bytes c.in_ok-key.key) c.args.keepers.now c.insert.new.self (Some c.args.place) c.in_ok-insert.ensures.updates other
    ∙ ap (λ (text : List ℕ). cond (bytes_eq text other) (Some c.args.place) (get_by_text c.args.keepers.now other)) c.in_ok-key.ensures.ok)
