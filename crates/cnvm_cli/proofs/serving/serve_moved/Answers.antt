use Rattle.std.proofs.Common.{refl}
use Rattle.cnvm_cli.specs.PoolSide.{PoolSide, held_by, pool_side}
use Rattle.cnvm_cli.specs.inside.ServeEnds.{ServesMoved}
use Rattle.cnvm_cli.proofs.Moves.{pool_taken, pool_refused}
use Rattle.cnvm_cli.proofs.serving.serve_moved.Goals as goal

pub returns-in-Ok-clause-ends : goal.returns-in-Ok-clause-ends
returns-in-Ok-clause-ends g c = λ found.
    let content = g.F.LineFile.content in
    let before : PoolSide = pool_side found (g.K.Sink.written c.args.out.now)
    (held_by g.N.Lines.memory content c.args.dev.now) c.args.steps.now in
    let after : PoolSide = pool_side found (g.K.Sink.written c.serve_former.new.out)
    (held_by g.N.Lines.memory content c.serve_former.new.dev) c.serve_former.new.steps in
    pool_taken
    (ServesMoved (g.T.Source.left c.args.lines.now) (g.T.Source.left c.serve_former.new.lines)
    c.args.pool.now.compiled.program c.args.program.now c.serve_former.result before after)
    c.args.pool.now (content c.args.file) c.serve_former.result before after
    c.in-Ok.ensures.found (c.serve_former.ensures.ends found)

pub returns-in-Err-Refused-clause-ends : goal.returns-in-Err-Refused-clause-ends
returns-in-Err-Refused-clause-ends g c = λ found.
    let content = g.F.LineFile.content in
    let before : PoolSide = pool_side found (g.K.Sink.written c.args.out.now)
    (held_by g.N.Lines.memory content c.args.dev.now) c.args.steps.now in
    let after : PoolSide = pool_side found (g.K.Sink.written c.refuse.new.out)
    (held_by g.N.Lines.memory content c.args.dev.now) c.args.steps.now in
    let left = g.T.Source.left c.args.lines.now in
    pool_refused
    (ServesMoved left left c.args.pool.now.compiled.program c.args.program.now c.refuse.result
    before after)
    c.args.pool.now (content c.args.file) c.refuse.result before after c.in-Err-Refused.why
    (rw c.in-Err-Refused.field-0-is at c.in-Err-Refused.ensures.unheld)
    (c.refuse.ensures.refused, refl, refl)
