use Rattle.std.proofs.Common.{rules, ◌≡◌, ◌≤◌, List, Some, length, sym, ap, ◌∙◌}
use Rattle.std.proofs.lemmas.List.{drop_all}
use Rattle.pl_path.specs.declared.segment.Segment.{Segment}
use Rattle.pl_path.specs.Found.{found_at, found_in}
use Rattle.pl_path.proofs.StaysSound.{found_is_value}
use Rattle.pl_path.proofs.found.get.Goals as goal

pub returns-clause-sound : goal.returns-clause-sound
returns-clause-sound c =
    let rest : List Segment = c.in_ok-first.rest.now in
    let all : length rest ≤ c.loop-segment.segment-index = search rules in
    let there : found_at c.args.path.now c.args.fields.now ≡ Some c.loop-segment.found.now =
    sym c.loop-segment.invariant ∙ ap (λ segments. found_in segments c.loop-segment.found.now) (drop_all c.loop-segment.segment-index rest all) in
    found_is_value c.args.path.now c.args.fields.now c.loop-segment.found.now c.as_slice-2.ensures.sound there
