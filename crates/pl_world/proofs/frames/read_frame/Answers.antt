use Rattle.std.proofs.Common.{◌≡◌, ◌<◌, ◌++◌, ◌∙◌, ap, length, arith}
use Rattle.std.proofs.lemmas.Result.{err_from_is_err_and}
use Rattle.pl_world.specs.Told.{Took}
use Rattle.pl_world.proofs.Reading.{Took-header_and_body, IsPartOfFrame-short_body, TakesFor-trouble, TakesFor-cut}
use Rattle.pl_world.proofs.frames.read_frame.Goals as goal

pub returns-in_err-fill-2-clause-taken : goal.returns-in_err-fill-2-clause-taken
returns-in_err-fill-2-clause-taken g c =
    let p = err_from_is_err_and c.from_residual-in_err-fill-2.result c.from_residual-in_err-fill-2.ensures.1 in
    let took = Took-header_and_body _ _ _ _ _ _ _ _ _ _ c.new-header.ensures.items c.new-body.ensures.items c.in_ok-fill.ensures.took c.in_err-fill-2.ensures.took in
    let spelled = c.length_of-length.ensures ∙ c.deref.ensures.value in
    let short : length c.fill-2.new.kept.items < c.length_of-length.result =
    omega (arith, c.fill-2.new.kept.ok, c.in_err-fill-2.ensures.trouble_short)
    in
    let part = IsPartOfFrame-short_body c.length_of-length.result c.fill.new.kept.items c.fill-2.new.kept.items spelled (omega arith) (omega arith) short in
    rw (p.1, p.2) (TakesFor-trouble c.in_err-fill-2.field-0.0 (Took (g.Q.Pipe.taken c.args.pipe.now) (g.Q.Pipe.taken c.fill-2.new.pipe) (g.Q.Pipe.left c.args.pipe.now) (g.Q.Pipe.left c.fill-2.new.pipe)) (c.fill.new.kept.items ++ c.fill-2.new.kept.items) part took)

pub returns-in_err-extend_from_slice-clause-taken : goal.returns-in_err-extend_from_slice-clause-taken
returns-in_err-extend_from_slice-clause-taken g c =
    let p = err_from_is_err_and c.from_residual-in_err-extend_from_slice.result c.from_residual-in_err-extend_from_slice.ensures.1 in
    let took = Took-header_and_body _ _ _ _ _ _ _ _ _ _ c.new-header.ensures.items c.new-body.ensures.items c.in_ok-fill.ensures.took c.in_ok-fill-2.ensures.took in
    let spelled = c.length_of-length.ensures ∙ c.deref.ensures.value in
    let short : length c.fill-2.new.kept.items < c.length_of-length.result =
    omega (arith, c.fill-2.new.kept.ok, c.in_ok-fill-2.ensures.short c.if-not-branch-2.true)
    in
    let part = IsPartOfFrame-short_body c.length_of-length.result c.fill.new.kept.items c.fill-2.new.kept.items spelled (omega arith) (omega arith) short in
    rw (p.1, p.2) (c.fill.new.kept.items ++ c.fill-2.new.kept.items, part, took)

pub returns-then-not-branch-2-clause-taken : goal.returns-then-not-branch-2-clause-taken
returns-then-not-branch-2-clause-taken g c =
    let took = Took-header_and_body _ _ _ _ _ _ _ _ _ _ c.new-header.ensures.items c.new-body.ensures.items c.in_ok-fill.ensures.took c.in_ok-fill-2.ensures.took in
    let spelled = c.length_of-length.ensures ∙ c.deref.ensures.value in
    let short : length c.fill-2.new.kept.items < c.length_of-length.result =
    omega (arith, c.fill-2.new.kept.ok, c.in_ok-fill-2.ensures.short c.if-not-branch-2.true)
    in
    let part = IsPartOfFrame-short_body c.length_of-length.result c.fill.new.kept.items c.fill-2.new.kept.items spelled (omega arith) (omega arith) short in
    let kept : c.extend_from_slice.new.self.items ≡ c.fill.new.kept.items ++ c.fill-2.new.kept.items =
    c.in_ok-extend_from_slice.ensures.items ∙ ap (λ body. c.fill.new.kept.items ++ body) c.deref-then-not-branch-2.ensures.value
    in
    let cut = rw kept at c.cut_short-then-not-branch-2.ensures in
    TakesFor-cut c.cut_short-then-not-branch-2.result (Took (g.Q.Pipe.taken c.args.pipe.now) (g.Q.Pipe.taken c.fill-2.new.pipe) (g.Q.Pipe.left c.args.pipe.now) (g.Q.Pipe.left c.fill-2.new.pipe)) (c.fill.new.kept.items ++ c.fill-2.new.kept.items) cut part took
