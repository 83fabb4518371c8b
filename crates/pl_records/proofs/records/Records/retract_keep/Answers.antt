use Rattle.std.proofs.Common.{◌≡◌, ◌<◌, ◌≤◌, ◌∙◌, option_map, sym, ap, arith}
use Rattle.std.specs.HashMap as map
use Rattle.std.specs.HashSet as set
use Rattle.pl_lemmas.specs.Words.{first_in}
use Rattle.pl_records.specs.Columns.{Kept}
use Rattle.pl_records.specs.Index.{kept_in, numbers_in}
use Rattle.pl_records.specs.Kept.{HasRoom}
use Rattle.pl_records.proofs.Keeps.{stay_recorded}
use Rattle.pl_records.proofs.records.Records.retract_keep.Goals as goal

pub invariant_of-self : goal.invariant_of-self
invariant_of-self c =
    let same : first_in (numbers_in c.self.inside.recorded) ≡ option_map (λ one. one.0) (first_in (kept_in c.self.inside.kept)) =
    ap (λ (kept : Kept). first_in kept.records.recorded) c.self.view_is ∙ c.requires
    ∙ sym (ap (λ (kept : Kept). option_map (λ one. one.0) (first_in kept.records.kept)) c.self.view_is) in
    let keeps_room : map.spare c.self.inside.kept ≤ map.spare c.take_kept.new.keeps = c.take_kept.ensures.room in
    let numbers_room : set.spare c.self.inside.recorded ≤ set.spare c.take_newest.new.numbers = c.take_newest.ensures.room in
    record {
      once = c.take_kept.ensures.once;
      recorded = stay_recorded (kept_in c.self.inside.kept) (kept_in c.take_kept.new.keeps)
          (numbers_in c.self.inside.recorded) (numbers_in c.take_newest.new.numbers) c.self.invariant.recorded
          c.take_kept.ensures.taken c.take_newest.ensures.taken c.take_kept.ensures.gone same;
      removals = c.self.invariant.removals;
      clears = c.self.invariant.clears;
      room = λ ready.
          let was : HasRoom c.self.inside = c.self.invariant.room ready in
          let one_kept : 0 < map.spare c.self.inside.kept = was.kept in
          let one_recorded : 0 < set.spare c.self.inside.recorded = was.recorded in
          record { recorded = omega arith; kept = omega arith; posted = was.posted };
    }
