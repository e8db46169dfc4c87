use Rattle.cnvm_cli.specs.PoolSide.{PoolSide, held_by, pool_side}
use Rattle.cnvm_cli.specs.inside.ServeEnds.{ServesOn}
use Rattle.cnvm_cli.proofs.Taking.{words_file}
use Rattle.cnvm_cli.proofs.serving.serve_image.Goals as goal

pub returns-clause-ends : goal.returns-clause-ends
returns-clause-ends g c = λ found.
    let content = g.F.LineFile.content in
    let before : PoolSide = pool_side found (g.K.Sink.written c.args.out.now)
    (held_by g.N.Lines.memory content c.args.dev.now) c.args.steps.now in
    let after : PoolSide = pool_side found (g.K.Sink.written c.serve_words.new.out)
    (held_by g.N.Lines.memory content c.serve_words.new.dev) c.serve_words.new.steps in
    words_file
    (ServesOn (g.T.Source.left c.args.lines.now) (g.T.Source.left c.serve_words.new.lines)
    c.args.program.now c.serve_words.result before after)
    c.args.program.now (g.I.Source.left c.args.image.now) (content c.args.file)
    c.serve_words.result before after c.as_slice.result.now c.in-Ok.words c.as_slice.ensures
    c.in-Ok.ensures.told (c.serve_words.ensures.ends found)
