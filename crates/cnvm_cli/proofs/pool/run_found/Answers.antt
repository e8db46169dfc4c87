use Rattle.std.proofs.Common.{inr}
use Rattle.cnvm_compile.specs.declared.compiling.Compiled.{Compiled}
use Rattle.cnvm_cli.specs.PoolSide.{PoolSide, held_by, pool_side}
use Rattle.cnvm_cli.specs.inside.PoolEnds.{RunsOn, RunsMoved}
use Rattle.cnvm_cli.proofs.meant.PoolMeaning.{tells_file}
use Rattle.cnvm_cli.proofs.Taking.{either_if, file_if}
use Rattle.cnvm_cli.proofs.pool.run_found.Goals as goal

pub returns-then-moves-clause-ends : goal.returns-then-moves-clause-ends
returns-then-moves-clause-ends g c =
    let program = c.args.job.now.compiled.program in
    let content = g.G.File.LineFile.content in
    let before : PoolSide = pool_side (g.G.Pools.found c.args.pools.now)
    (g.K.Sink.written c.args.out.now) (held_by g.N.Lines.memory content c.args.dev.now)
    c.args.steps.now in
    let after : PoolSide = pool_side (g.G.Pools.found c.hold.new.self)
    (g.K.Sink.written c.run_either.new.out) (held_by g.N.Lines.memory content c.run_either.new.dev)
    c.run_either.new.steps in
    inr (inr (inr (
      content c.in-Held.file,
      tells_file content c.in-Held.file _ _ c.in-Held.ensures.answer,
      either_if c.args.moves c.if-moves.true c.args.asked (g.S.Source.left c.args.former.now)
          (RunsOn program c.args.job.now.script c.run_either.result before after)
          (λ (old : Compiled). RunsMoved old.program program
          c.args.job.now.script c.run_either.result before after)
          program (g.I.Source.left c.args.image.now) c.run_either.result before after
          (content c.in-Held.file) (c.run_either.ensures.ends (g.G.Pools.found c.args.pools.now)),
    )))

pub returns-else-moves-clause-ends : goal.returns-else-moves-clause-ends
returns-else-moves-clause-ends g c =
    let program = c.args.job.now.compiled.program in
    let content = g.G.File.LineFile.content in
    let before : PoolSide = pool_side (g.G.Pools.found c.args.pools.now)
    (g.K.Sink.written c.args.out.now) (held_by g.N.Lines.memory content c.args.dev.now)
    c.args.steps.now in
    let after : PoolSide = pool_side (g.G.Pools.found c.hold.new.self)
    (g.K.Sink.written c.run_image.new.out) (held_by g.N.Lines.memory content c.run_image.new.dev)
    c.run_image.new.steps in
    inr (inr (inr (
      content c.in-Held.file,
      tells_file content c.in-Held.file _ _ c.in-Held.ensures.answer,
      file_if c.args.moves c.if-moves.false c.args.asked (g.S.Source.left c.args.former.now)
          (RunsOn program c.args.job.now.script c.run_image.result before after)
          (λ (old : Compiled). RunsMoved old.program program
          c.args.job.now.script c.run_image.result before after)
          program (g.I.Source.left c.args.image.now) c.run_image.result before after
          (content c.in-Held.file) (c.run_image.ensures.ends (g.G.Pools.found c.args.pools.now)),
    )))
