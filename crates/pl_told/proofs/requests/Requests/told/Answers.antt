use Rattle.std.proofs.Common.{◌≡◌, ◌∙◌, Some, None, option_map, sym, ap}
use Rattle.std.specs.Option.{option_copied}
use Rattle.pl_lemmas.specs.Words.{numbered}
use Rattle.pl_model.specs.Known.{number_of}
use Rattle.pl_model.specs.declared.heard.Heard.{Heard}
use Rattle.pl_told.proofs.Seen.{told_number}
use Rattle.pl_told.proofs.requests.Requests.told.Goals as goal

pub returns-in-None : goal.returns-in-None
returns-in-None c known same =
    let none : numbered c.args.self.now.asked c.args.place ≡ None = sym c.heard.ensures ∙ ap option_copied c.in-None.is in
    sym (told_number known c.args.self.now.asked same c.args.place ∙ ap (option_map (λ (one : Heard). number_of one.request)) none)

pub returns-in-Some : goal.returns-in-Some
returns-in-Some c known same =
    let some : numbered c.args.self.now.asked c.args.place ≡ Some c.in-Some.heard.now = sym c.heard.ensures ∙ ap option_copied c.in-Some.is in
    ap Some c.number_of.ensures
    ∙ sym (told_number known c.args.self.now.asked same c.args.place ∙ ap (option_map (λ (one : Heard). number_of one.request)) some)
