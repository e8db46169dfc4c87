use Rattle.std.proofs.Common.{inr}
use Rattle.cnvm_compile.specs.declared.compiling.Compiled.{Compiled}
use Rattle.cnvm_cli.specs.PoolSide.{PoolSide, held_by, pool_side}
use Rattle.cnvm_cli.specs.inside.ServeEnds.{ServesOn, ServesMoved}
use Rattle.cnvm_cli.proofs.meant.PoolMeaning.{tells_file}
use Rattle.cnvm_cli.proofs.Taking.{either_if, file_if}
use Rattle.cnvm_cli.proofs.serving.serve_found.Goals as goal

pub returns-then-moves-clause-ends : goal.returns-then-moves-clause-ends
returns-then-moves-clause-ends g c =
    let program = c.args.compiled.now.program in
    let content = g.G.File.LineFile.content in
    let before : PoolSide = pool_side (g.G.Pools.found c.args.pools.now)
    (g.K.Sink.written c.args.out.now) (held_by g.N.Lines.memory content c.args.dev.now)
    c.args.steps.now in
    let after : PoolSide = pool_side (g.G.Pools.found c.hold.new.self)
    (g.K.Sink.written c.serve_either.new.out) (held_by g.N.Lines.memory content
    c.serve_either.new.dev)
    c.serve_either.new.steps in
    let left = g.T.Source.left c.args.lines.now in
    let left' = g.T.Source.left c.serve_either.new.lines in
    inr (inr (inr (
      content c.in-Held.file,
      tells_file content c.in-Held.file _ _ c.in-Held.ensures.answer,
      either_if c.args.moves c.if-moves.true c.args.asked (g.S.Source.left c.args.former.now)
          (ServesOn left left' program c.serve_either.result before after)
          (λ (old : Compiled). ServesMoved left left' old.program program
          c.serve_either.result before after)
          program (g.I.Source.left c.args.image.now) c.serve_either.result before after
          (content c.in-Held.file) (c.serve_either.ensures.ends (g.G.Pools.found c.args.pools.now)),
    )))

pub returns-else-moves-clause-ends : goal.returns-else-moves-clause-ends
returns-else-moves-clause-ends g c =
    let program = c.args.compiled.now.program in
    let content = g.G.File.LineFile.content in
    let before : PoolSide = pool_side (g.G.Pools.found c.args.pools.now)
    (g.K.Sink.written c.args.out.now) (held_by g.N.Lines.memory content c.args.dev.now)
    c.args.steps.now in
    let after : PoolSide = pool_side (g.G.Pools.found c.hold.new.self)
    (g.K.Sink.written c.serve_image.new.out) (held_by g.N.Lines.memory content
    c.serve_image.new.dev)
    c.serve_image.new.steps in
    let left = g.T.Source.left c.args.lines.now in
    let left' = g.T.Source.left c.serve_image.new.lines in
    inr (inr (inr (
      content c.in-Held.file,
      tells_file content c.in-Held.file _ _ c.in-Held.ensures.answer,
      file_if c.args.moves c.if-moves.false c.args.asked (g.S.Source.left c.args.former.now)
          (ServesOn left left' program c.serve_image.result before after)
          (λ (old : Compiled). ServesMoved left left' old.program program
          c.serve_image.result before after)
          program (g.I.Source.left c.args.image.now) c.serve_image.result before after
          (content c.in-Held.file) (c.serve_image.ensures.ends (g.G.Pools.found c.args.pools.now)),
    )))
