use Rattle.std.proofs.Common.{rules, ◌≡◌, ◌<◌, ◌≤◌, false, length, map, string_bytes}
use Rattle.std.proofs.lemmas.List.{length-map}
use Rattle.pl_cli.specs.Place.{may_stand}
use Rattle.pl_cli.proofs.Places.{misplaced_word-None, misplaced_word-Some}
use Rattle.pl_cli.proofs.read.misplaced_word.Goals as goal

pub returns-then-not-may_stand : goal.returns-then-not-may_stand
returns-then-not-may_stand c =
    let bad : may_stand c.args.command (map string_bytes c.args.words.now) c.loop-place.place ≡ false = search rules in
    let within : c.loop-place.place < length (map string_bytes c.args.words.now) = rw length-map c.loop-place-test.true in
    misplaced_word-Some c.args.command (map string_bytes c.args.words.now) c.loop-place.place within c.loop-place.invariant bad

pub returns : goal.returns
returns c =
    let all : length (map string_bytes c.args.words.now) ≤ c.loop-place.place = rw length-map c.loop-place-test.false in
    misplaced_word-None c.args.command (map string_bytes c.args.words.now) c.loop-place.place all c.loop-place.invariant
