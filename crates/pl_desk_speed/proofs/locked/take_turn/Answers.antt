use Rattle.std.proofs.Common.{rules}
use Rattle.pl_desk.specs.Seats.{number}
use Rattle.pl_desk_speed.specs.Told.{told}
use Rattle.pl_desk_speed.specs.Turns.{known}
use Rattle.pl_desk_speed.proofs.Adds.{grows_once}
use Rattle.pl_desk_speed.proofs.locked.take_turn.Goals as goal

pub leave-requires-clause-added : goal.leave-requires-clause-added
leave-requires-clause-added g c =
    let seat = c.enter-turn.new.seat in
    grows_once c.args.by (number seat) (told c.enter-turn.result.item.story.value) (known seat) _ (search rules) (search rules) c.add.ensures.adds
