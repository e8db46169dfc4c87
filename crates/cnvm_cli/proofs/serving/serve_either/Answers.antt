use Rattle.std.proofs.Common.{refl}
use Rattle.cnvm_compile.specs.declared.compiling.Compiled.{Compiled}
use Rattle.cnvm_cli.specs.PoolSide.{PoolSide, held_by, pool_side}
use Rattle.cnvm_cli.specs.inside.ServeEnds.{ServesOn, ServesMoved}
use Rattle.cnvm_cli.proofs.Taking.{words_either, pool_either, refused_either}
use Rattle.cnvm_cli.proofs.Usable.{usable_pool}
use Rattle.cnvm_cli.proofs.serving.serve_either.Goals as goal

pub serve_moved-requires : goal.serve_moved-requires
serve_moved-requires g c =
    usable_pool c.args.asked c.args.compiled.now (g.S.Source.left c.args.former.now)
    (g.I.Source.left c.args.image.now) c.in-Ok-Former.pool c.requires
    (rw c.in-Ok-Former.field-0-is at c.in-Ok-Former.ensures.told)

pub returns-in-Ok-Own-clause-ends : goal.returns-in-Ok-Own-clause-ends
returns-in-Ok-Own-clause-ends g c = λ found.
    let content = g.F.LineFile.content in
    let before : PoolSide = pool_side found (g.K.Sink.written c.args.out.now)
    (held_by g.N.Lines.memory content c.args.dev.now) c.args.steps.now in
    let after : PoolSide = pool_side found (g.K.Sink.written c.serve_words.new.out)
    (held_by g.N.Lines.memory content c.serve_words.new.dev) c.serve_words.new.steps in
    let program = c.args.compiled.now.program in
    let left = g.T.Source.left c.args.lines.now in
    let left' = g.T.Source.left c.serve_words.new.lines in
    let read = rw c.in-Ok-Own.field-0-is at c.in-Ok-Own.ensures.told in
    words_either c.args.asked (g.S.Source.left c.args.former.now)
    (ServesOn left left' program c.serve_words.result before after)
    (λ (old : Compiled). ServesMoved left left' old.program program c.serve_words.result before
    after)
    program (g.I.Source.left c.args.image.now) (content c.args.file) c.serve_words.result before
    after c.as_slice.result.now c.in-Ok-Own.words c.as_slice.ensures read.0 read.1
    (c.serve_words.ensures.ends found)

pub returns-in-Ok-Former-clause-ends : goal.returns-in-Ok-Former-clause-ends
returns-in-Ok-Former-clause-ends g c = λ found.
    let content = g.F.LineFile.content in
    let before : PoolSide = pool_side found (g.K.Sink.written c.args.out.now)
    (held_by g.N.Lines.memory content c.args.dev.now) c.args.steps.now in
    let after : PoolSide = pool_side found (g.K.Sink.written c.serve_moved.new.out)
    (held_by g.N.Lines.memory content c.serve_moved.new.dev) c.serve_moved.new.steps in
    let program = c.args.compiled.now.program in
    let left = g.T.Source.left c.args.lines.now in
    let left' = g.T.Source.left c.serve_moved.new.lines in
    pool_either c.args.asked (g.S.Source.left c.args.former.now)
    (ServesOn left left' program c.serve_moved.result before after)
    (λ (old : Compiled). ServesMoved left left' old.program program c.serve_moved.result before
    after)
    program (g.I.Source.left c.args.image.now) (content c.args.file) c.serve_moved.result before
    after c.in-Ok-Former.pool (rw c.in-Ok-Former.field-0-is at c.in-Ok-Former.ensures.told)
    (c.serve_moved.ensures.ends found)

pub returns-in-Err-clause-ends : goal.returns-in-Err-clause-ends
returns-in-Err-clause-ends g c = λ found.
    let content = g.F.LineFile.content in
    let before : PoolSide = pool_side found (g.K.Sink.written c.args.out.now)
    (held_by g.N.Lines.memory content c.args.dev.now) c.args.steps.now in
    let after : PoolSide = pool_side found (g.K.Sink.written c.refuse.new.out)
    (held_by g.N.Lines.memory content c.args.dev.now) c.args.steps.now in
    let program = c.args.compiled.now.program in
    let left = g.T.Source.left c.args.lines.now in
    refused_either c.args.asked (g.S.Source.left c.args.former.now)
    (ServesOn left left program c.refuse.result before after)
    (λ (old : Compiled). ServesMoved left left old.program program c.refuse.result before after)
    program (g.I.Source.left c.args.image.now) (content c.args.file) c.refuse.result before after
    c.in-Err.why c.in-Err.ensures.told (c.refuse.ensures.refused, refl, refl)
