use Rattle.std.proofs.Common.{◌≡◌, ◌∙◌, sym, ap, map, position, string_bytes, Some, None}
use Rattle.pl_cli.specs.Place.{given_value, names_option}
use Rattle.pl_cli.proofs.Lists.{position-map}
use Rattle.pl_cli.proofs.place.given_value.Goals as goal

pub returns-in-Some : goal.returns-in-Some
unfolding given_value
returns-in-Some c =
    let found : position (names_option c.args.option) (map string_bytes c.args.words.now) ≡ Some c.in-Some.place
    = position-map (names_option c.args.option) string_bytes c.args.words.now ∙ sym c.in-Some.ensures.place in
    rw found (ap Some c.value_at.ensures)

pub returns-in-None : goal.returns-in-None
unfolding given_value
returns-in-None c =
    let found : position (names_option c.args.option) (map string_bytes c.args.words.now) ≡ None
    = position-map (names_option c.args.option) string_bytes c.args.words.now ∙ sym c.in-None.ensures.place in
    rw found
