use Rattle.std.proofs.Common.{refl}
use Rattle.cnvm_cli.specs.PoolSide.{PoolSide, held_by, pool_side}
use Rattle.cnvm_cli.specs.inside.PoolEnds.{RunsOn}
use Rattle.cnvm_cli.proofs.Taking.{words_file}
use Rattle.cnvm_cli.proofs.pool.run_image.Goals as goal

pub returns-clause-ends : goal.returns-clause-ends
returns-clause-ends g c = λ found.
    let content = g.F.LineFile.content in
    let before : PoolSide = pool_side found (g.K.Sink.written c.args.out.now)
    (held_by g.N.Lines.memory content c.args.dev.now) c.args.steps.now in
    let after : PoolSide = pool_side found (g.K.Sink.written c.run_words.new.out)
    (held_by g.N.Lines.memory content c.run_words.new.dev) c.run_words.new.steps in
    words_file (RunsOn c.args.program.now c.args.script.now c.run_words.result before after)
    c.args.program.now (g.I.Source.left c.args.image.now) (content c.args.file) c.run_words.result
    before after c.in-Ok.words c.in-Ok.words refl c.in-Ok.ensures.told
    (c.run_words.ensures.ends found)
