use Rattle.std.proofs.Common.{◌≡◌, Option, List, ℕ, Err, refl, ap}
use Rattle.pmem.specs.Device.{Device}
use Rattle.file_pmem.specs.Mirror.{file_device}
use Rattle.session_run.specs.Held.{AnswersAs}
use Rattle.session_run.specs.declared.status.Status.TheVariants as status
use Rattle.cnvm_cli.specs.PoolSide.{PoolSide, held_by, pool_side}
use Rattle.cnvm_cli.proofs.Moves.{run_early, run_left, run_moved, moves_left}
use Rattle.cnvm_cli.proofs.pool.run_former.Goals as goal

pub returns-in-Err-clause-ends : goal.returns-in-Err-clause-ends
returns-in-Err-clause-ends g c = λ found.
    let content = g.F.LineFile.content in
    let before : PoolSide = pool_side found (g.K.Sink.written c.args.out.now)
    (held_by g.N.Lines.memory content c.args.dev.now) c.args.steps.now in
    let after : PoolSide = pool_side found (g.K.Sink.written c.open_held-opened.new.out)
    (held_by g.N.Lines.memory content c.open_held-opened.new.dev) c.open_held-opened.new.steps in
    run_early c.args.pool.now.compiled.program c.args.job.now.compiled.program
    c.args.job.now.script c.in-Err.status before after c.as_slice-words.result.now
    c.args.pool.now.words c.as_slice-words.ensures
    (λ (e : c.in-Err.status ≡ status.Done). c.in-Err.ensures.undone (ap Err e))
    c.in-Err.ensures.ended

pub returns-in-Err-take_over-clause-ends : goal.returns-in-Err-take_over-clause-ends
returns-in-Err-take_over-clause-ends g c = λ found.
    let old = c.args.pool.now.compiled.program in
    let program = c.args.job.now.compiled.program in
    let content = g.F.LineFile.content in
    let told : Option (List ℕ) = g.K.Sink.written c.open_held-opened.new.out in
    let d : Device = file_device g.N.Lines.memory c.open_held-opened.new.dev in
    let k : ℕ = c.open_held-opened.new.steps in
    let before : PoolSide = pool_side found (g.K.Sink.written c.args.out.now)
    (held_by g.N.Lines.memory content c.args.dev.now) c.args.steps.now in
    let after : PoolSide = pool_side found (g.K.Sink.written c.take_over.new.out)
    (held_by g.N.Lines.memory content c.take_over.new.dev) k in
    run_left old program c.args.job.now.script c.in-Err-take_over.status before after
    c.as_slice-words.result.now c.args.pool.now.words c.as_slice-words.ensures c.in-Ok.session d k
    told c.open_held-opened.new.dev.link.state c.in-Ok.ensures.opened
    (moves_left
    (λ (b : Device). AnswersAs program c.args.job.now.script c.in-Ok.session
    c.in-Err-take_over.status after.held.state told after.out b after.held.device k after.steps)
    old program c.in-Ok.session d k c.in-Err-take_over.status told after c.args.pool.now.other
    c.requires.usable.other c.in-Err-take_over.ensures.over refl)

pub returns-clause-ends : goal.returns-clause-ends
returns-clause-ends g c = λ found.
    let old = c.args.pool.now.compiled.program in
    let program = c.args.job.now.compiled.program in
    let content = g.F.LineFile.content in
    let told : Option (List ℕ) = g.K.Sink.written c.open_held-opened.new.out in
    let d : Device = file_device g.N.Lines.memory c.open_held-opened.new.dev in
    let k : ℕ = c.open_held-opened.new.steps in
    let before : PoolSide = pool_side found (g.K.Sink.written c.args.out.now)
    (held_by g.N.Lines.memory content c.args.dev.now) c.args.steps.now in
    let after : PoolSide = pool_side found (g.K.Sink.written c.answer_script.new.out)
    (held_by g.N.Lines.memory content c.answer_script.new.dev) c.answer_script.new.steps in
    let b : Device = file_device g.N.Lines.memory c.take_over.new.dev in
    let w : Option (List ℕ) = g.K.Sink.written c.take_over.new.out in
    run_moved old program c.args.job.now.script c.answer_script.result before after
    c.as_slice-words.result.now c.args.pool.now.words c.as_slice-words.ensures c.in-Ok.session d k
    told c.open_held-opened.new.dev.link.state c.in-Ok.ensures.opened c.args.pool.now.other
    c.requires.usable.other c.take_over.new.dev.link.state b w
    (rw c.in_default.is at c.take_over.ensures.over) c.answer_script.ensures.answered
