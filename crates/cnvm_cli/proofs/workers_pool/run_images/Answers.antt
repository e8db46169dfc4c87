use Rattle.std.proofs.Common.{◌*◌}
use Rattle.pool_layout.specs.Sizes.{pool_lines}
use Rattle.cnvm_session.specs.Pool.{sizes_of}
use Rattle.cnvm_cli.specs.CrewOpened.{CrewRefuses, CrewGives, last_version}
use Rattle.cnvm_cli.specs.PoolSide.{PoolSide, held_by, pool_side}
use Rattle.cnvm_cli.specs.inside.CrewEnds.{RunsOnCrew}
use Rattle.cnvm_cli.proofs.Taking.{words_image}
use Rattle.cnvm_cli.proofs.workers_pool.run_images.Goals as goal

pub returns-clause-ends : goal.returns-clause-ends
returns-clause-ends g c = λ found.
    let content = g.F.LineFile.content in
    let p = c.args.crew.now.compiled.program in
    let n = c.args.count in
    let image = g.I.Source.left c.args.image.now in
    let before : PoolSide = pool_side found (g.K.Sink.written c.args.out.now)
    (held_by g.N.Lines.memory content c.args.dev.now) c.args.steps.now in
    let after : PoolSide = pool_side found (g.K.Sink.written c.run_words.new.out)
    (held_by g.N.Lines.memory content c.run_words.new.dev) c.run_words.new.steps in
    words_image (CrewRefuses p n image) (CrewGives p n image)
    (RunsOnCrew p n c.args.crew.now.commands c.run_words.result before after)
    (pool_lines (sizes_of p) * n) (last_version p n) (content c.args.file) c.run_words.result
    before after
    c.as_slice.result.now c.in-Ok.words c.as_slice.ensures c.in-Ok.ensures.told
    (c.run_words.ensures.ends found)
