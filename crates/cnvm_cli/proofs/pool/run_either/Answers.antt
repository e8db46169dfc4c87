use Rattle.std.proofs.Common.{refl}
use Rattle.cnvm_compile.specs.declared.compiling.Compiled.{Compiled}
use Rattle.cnvm_cli.specs.PoolSide.{PoolSide, held_by, pool_side}
use Rattle.cnvm_cli.specs.inside.PoolEnds.{RunsOn, RunsMoved}
use Rattle.cnvm_cli.proofs.Taking.{words_either, pool_either, refused_either}
use Rattle.cnvm_cli.proofs.Usable.{usable_pool}
use Rattle.cnvm_cli.proofs.pool.run_either.Goals as goal

pub run_moved-requires : goal.run_moved-requires
run_moved-requires g c =
    usable_pool c.args.asked c.args.job.now.compiled (g.S.Source.left c.args.former.now)
    (g.I.Source.left c.args.image.now) c.in-Ok-Former.pool c.requires
    (rw c.in-Ok-Former.field-0-is at c.in-Ok-Former.ensures.told)

pub returns-in-Ok-Own-clause-ends : goal.returns-in-Ok-Own-clause-ends
returns-in-Ok-Own-clause-ends g c = λ found.
    let program = c.args.job.now.compiled.program in
    let content = g.F.LineFile.content in
    let before : PoolSide = pool_side found (g.K.Sink.written c.args.out.now)
    (held_by g.N.Lines.memory content c.args.dev.now) c.args.steps.now in
    let after : PoolSide = pool_side found (g.K.Sink.written c.run_words.new.out)
    (held_by g.N.Lines.memory content c.run_words.new.dev) c.run_words.new.steps in
    let read = rw c.in-Ok-Own.field-0-is at c.in-Ok-Own.ensures.told in
    words_either c.args.asked (g.S.Source.left c.args.former.now)
    (RunsOn program c.args.job.now.script c.run_words.result before after)
    (λ (old : Compiled). RunsMoved old.program program c.args.job.now.script c.run_words.result
    before after)
    program (g.I.Source.left c.args.image.now) (content c.args.file) c.run_words.result before after
    c.in-Ok-Own.words c.in-Ok-Own.words refl read.0 read.1
    (c.run_words.ensures.ends found)

pub returns-in-Ok-Former-clause-ends : goal.returns-in-Ok-Former-clause-ends
returns-in-Ok-Former-clause-ends g c = λ found.
    let program = c.args.job.now.compiled.program in
    let content = g.F.LineFile.content in
    let before : PoolSide = pool_side found (g.K.Sink.written c.args.out.now)
    (held_by g.N.Lines.memory content c.args.dev.now) c.args.steps.now in
    let after : PoolSide = pool_side found (g.K.Sink.written c.run_moved.new.out)
    (held_by g.N.Lines.memory content c.run_moved.new.dev) c.run_moved.new.steps in
    pool_either c.args.asked (g.S.Source.left c.args.former.now)
    (RunsOn program c.args.job.now.script c.run_moved.result before after)
    (λ (old : Compiled). RunsMoved old.program program c.args.job.now.script c.run_moved.result
    before after)
    program (g.I.Source.left c.args.image.now) (content c.args.file) c.run_moved.result before after
    c.in-Ok-Former.pool (rw c.in-Ok-Former.field-0-is at c.in-Ok-Former.ensures.told)
    (c.run_moved.ensures.ends found)

pub returns-in-Err-clause-ends : goal.returns-in-Err-clause-ends
returns-in-Err-clause-ends g c = λ found.
    let program = c.args.job.now.compiled.program in
    let content = g.F.LineFile.content in
    let before : PoolSide = pool_side found (g.K.Sink.written c.args.out.now)
    (held_by g.N.Lines.memory content c.args.dev.now) c.args.steps.now in
    let after : PoolSide = pool_side found (g.K.Sink.written c.refuse.new.out)
    (held_by g.N.Lines.memory content c.args.dev.now) c.args.steps.now in
    refused_either c.args.asked (g.S.Source.left c.args.former.now)
    (RunsOn program c.args.job.now.script c.refuse.result before after)
    (λ (old : Compiled). RunsMoved old.program program c.args.job.now.script c.refuse.result before
    after)
    program (g.I.Source.left c.args.image.now) (content c.args.file) c.refuse.result before after
    c.in-Err.why c.in-Err.ensures.told (c.refuse.ensures.refused, refl, refl)
