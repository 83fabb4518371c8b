use Rattle.std.proofs.Common.{rules, ◌≡◌, ℕ, ◌≤◌, List, Some, None, Err, get_or, length, sym, ap, ◌∙◌}
use Rattle.pl_path.specs.Steps.{ended, refused_at, step}
use Rattle.pl_path.proofs.Refused.{read_is_written, refused_is_place}
use Rattle.pl_path.proofs.StepByStep.{is_read, is_refused, read_back, reads_end, reads_one, refused_back}
use Rattle.pl_path.proofs.parsing.parse.Goals as goal

pub returns-in-None-clause-refused : goal.returns-in-None-clause-refused
returns-in-None-clause-refused c =
    let bytes : List ℕ = c.as_bytes-bytes.result.now in
    let none : None ≡ step c.loop-at.reading (get_or bytes c.loop-at.at 0) = sym c.in-None.is ∙ c.in_ok-after.ensures in
    is_refused c.args.text.now c.refused_at.result
    (sym c.loop-at.invariant ∙ reads_one c.loop-at.reading c.loop-at.at bytes None c.loop-at-test.true none ∙ ap Err (sym c.refused_at.ensures))

pub loop-at-preserved : goal.loop-at-preserved
loop-at-preserved c =
    let bytes : List ℕ = c.as_bytes-bytes.result.now in
    let some : Some c.in-Some.after ≡ step c.loop-at.reading (get_or bytes c.loop-at.at 0) = sym c.in-Some.is ∙ c.in_ok-after.ensures in
    sym (reads_one c.loop-at.reading c.loop-at.at bytes (Some c.in-Some.after) c.loop-at-test.true some) ∙ c.loop-at.invariant

pub returns-in-Some-2-clause-read : goal.returns-in-Some-2-clause-read
returns-in-Some-2-clause-read c =
    let bytes : List ℕ = c.as_bytes-bytes.result.now in
    let all : length bytes ≤ c.loop-at.at = search rules in
    let some : Some c.in-Some-2.path ≡ ended c.loop-at.reading = sym c.in-Some-2.is ∙ c.in_ok-path.ensures in
    is_read c.args.text.now c.in-Some-2.path
    (sym c.loop-at.invariant ∙ reads_end c.loop-at.reading c.loop-at.at bytes (Some c.in-Some-2.path) all some)

pub returns-in-None-2-clause-refused : goal.returns-in-None-2-clause-refused
returns-in-None-2-clause-refused c =
    let bytes : List ℕ = c.as_bytes-bytes.result.now in
    let all : length bytes ≤ c.loop-at.at = search rules in
    let at : c.loop-at.at ≡ length bytes = search rules in
    let none : None ≡ ended c.loop-at.reading = sym c.in-None-2.is ∙ c.in_ok-path.ensures in
    let place : refused_at c.loop-at.reading.place c.loop-at.at ≡ c.refused_at-in-None-2.result =
    ap (refused_at c.loop-at.reading.place) at ∙ sym c.refused_at-in-None-2.ensures in
    is_refused c.args.text.now c.refused_at-in-None-2.result
    (sym c.loop-at.invariant ∙ reads_end c.loop-at.reading c.loop-at.at bytes None all none ∙ ap Err place)

pub returns-in-Some-2-clause-written : goal.returns-in-Some-2-clause-written
returns-in-Some-2-clause-written c =
    read_is_written c.args.text.now c.in-Some-2.path (read_back c.args.text.now c.in-Some-2.path (returns-in-Some-2-clause-read c))

pub returns-in-None-clause-place : goal.returns-in-None-clause-place
returns-in-None-clause-place c =
    refused_is_place c.args.text.now c.refused_at.result (refused_back c.args.text.now c.refused_at.result (returns-in-None-clause-refused c))

pub returns-in-None-2-clause-place : goal.returns-in-None-2-clause-place
returns-in-None-2-clause-place c =
    refused_is_place c.args.text.now c.refused_at-in-None-2.result
    (refused_back c.args.text.now c.refused_at-in-None-2.result (returns-in-None-2-clause-refused c))
