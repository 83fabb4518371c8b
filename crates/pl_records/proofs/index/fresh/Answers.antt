use Rattle.std.proofs.Common.{◌≡◌, ◌∙◌, None, Some, option_and_then, sym, ap}
use Rattle.std.specs.Bool.{nat_eq}
use Rattle.std.specs.HashMap.{get}
use Rattle.std.specs.Option.{option_copied}
use Rattle.pl_records.proofs.Keeps.{looked_up}
use Rattle.pl_records.proofs.index.fresh.Goals as goal

pub returns-in-None : goal.returns-in-None
returns-in-None c =
    let none : None ≡ get nat_eq c.args.keeps.now c.args.goal = sym (ap option_copied c.in-None.is) ∙ c.get.ensures.value in
    ap (option_and_then (λ fresh. fresh)) none ∙ looked_up c.args.keeps.now.entries c.args.goal c.requires

pub returns-in-Some : goal.returns-in-Some
returns-in-Some c =
    let some : Some c.in-Some.fresh.now ≡ get nat_eq c.args.keeps.now c.args.goal =
    sym (ap option_copied c.in-Some.is) ∙ c.get.ensures.value in
    ap (option_and_then (λ fresh. fresh)) some ∙ looked_up c.args.keeps.now.entries c.args.goal c.requires
