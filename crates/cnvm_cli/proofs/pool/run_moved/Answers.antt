use Rattle.std.proofs.Common.{refl}
use Rattle.cnvm_cli.specs.PoolSide.{PoolSide, held_by, pool_side}
use Rattle.cnvm_cli.specs.inside.PoolEnds.{RunsMoved}
use Rattle.cnvm_cli.proofs.Moves.{pool_taken, pool_refused}
use Rattle.cnvm_cli.proofs.pool.run_moved.Goals as goal

pub returns-in-Ok-clause-ends : goal.returns-in-Ok-clause-ends
returns-in-Ok-clause-ends g c = λ found.
    let content = g.F.LineFile.content in
    let before : PoolSide = pool_side found (g.K.Sink.written c.args.out.now)
    (held_by g.N.Lines.memory content c.args.dev.now) c.args.steps.now in
    let after : PoolSide = pool_side found (g.K.Sink.written c.run_former.new.out)
    (held_by g.N.Lines.memory content c.run_former.new.dev) c.run_former.new.steps in
    pool_taken
    (RunsMoved c.args.pool.now.compiled.program c.args.job.now.compiled.program
    c.args.job.now.script c.run_former.result before after)
    c.args.pool.now (content c.args.file) c.run_former.result before after c.in-Ok.ensures.found
    (c.run_former.ensures.ends found)

pub returns-in-Err-Refused-clause-ends : goal.returns-in-Err-Refused-clause-ends
returns-in-Err-Refused-clause-ends g c = λ found.
    let content = g.F.LineFile.content in
    let before : PoolSide = pool_side found (g.K.Sink.written c.args.out.now)
    (held_by g.N.Lines.memory content c.args.dev.now) c.args.steps.now in
    let after : PoolSide = pool_side found (g.K.Sink.written c.refuse.new.out)
    (held_by g.N.Lines.memory content c.args.dev.now) c.args.steps.now in
    pool_refused
    (RunsMoved c.args.pool.now.compiled.program c.args.job.now.compiled.program
    c.args.job.now.script c.refuse.result before after)
    c.args.pool.now (content c.args.file) c.refuse.result before after c.in-Err-Refused.why
    (rw c.in-Err-Refused.field-0-is at c.in-Err-Refused.ensures.unheld)
    (c.refuse.ensures.refused, refl, refl)
