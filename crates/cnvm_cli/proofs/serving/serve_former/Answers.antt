use Rattle.std.proofs.Common.{◌≡◌, Option, List, ℕ, Err, Ok, refl, ap}
use Rattle.pmem.specs.Device.{Device}
use Rattle.file_pmem.specs.Mirror.{file_device}
use Rattle.session_serve.specs.declared.serving.Served.TheVariants as served
use Rattle.cnvm_cli.specs.PoolSide.{PoolSide, held_by, pool_side}
use Rattle.cnvm_cli.specs.Serve.{Concludes}
use Rattle.cnvm_cli.specs.inside.ServeEnds.{ServesFrom}
use Rattle.cnvm_cli.proofs.Moves.{serve_early, serve_left, serve_over, moves_left}
use Rattle.cnvm_cli.proofs.Standing.{stands_at, made_stands}
use Rattle.cnvm_cli.proofs.serving.serve_former.Goals as goal

pub returns-in-Err-clause-ends : goal.returns-in-Err-clause-ends
returns-in-Err-clause-ends g c = λ found.
    let old = c.args.pool.now.compiled.program in
    let program = c.args.program.now in
    let content = g.F.LineFile.content in
    let told : Option (List ℕ) = g.K.Sink.written c.open_served-opened.new.out in
    let d : Device = file_device g.N.Lines.memory c.open_served-opened.new.dev in
    let k : ℕ = c.open_served-opened.new.steps in
    let left = g.T.Source.left c.args.lines.now in
    let before : PoolSide = pool_side found (g.K.Sink.written c.args.out.now)
    (held_by g.N.Lines.memory content c.args.dev.now) c.args.steps.now in
    let after : PoolSide = pool_side found (g.K.Sink.written c.status_of.new.out)
    (held_by g.N.Lines.memory content c.open_served-opened.new.dev) k in
    let ends = c.in-Err.ensures in
    serve_early left left old program c.status_of.result before after
    c.as_slice-words.result.now c.args.pool.now.words c.as_slice-words.ensures c.in-Err.ended told
    c.status_of.ensures.status
    (stands_at c.in-Err.ended c.open_served-opened.new.dev.link.state
    (λ (e : c.in-Err.ended ≡ Ok served.Done). absurd (ends.undone (ap Err e)))
    (λ (e : c.in-Err.ended ≡ Ok served.ReadFault). absurd (ends.read (ap Err e)))
    (λ (e : c.in-Err.ended ≡ Ok served.GivenUp). ends.given_up (ap Err e)))
    ends.ended

pub returns-in-Err-take_over-clause-ends : goal.returns-in-Err-take_over-clause-ends
returns-in-Err-take_over-clause-ends g c = λ found.
    let old = c.args.pool.now.compiled.program in
    let program = c.args.program.now in
    let content = g.F.LineFile.content in
    let told : Option (List ℕ) = g.K.Sink.written c.open_served-opened.new.out in
    let d : Device = file_device g.N.Lines.memory c.open_served-opened.new.dev in
    let k : ℕ = c.open_served-opened.new.steps in
    let left = g.T.Source.left c.args.lines.now in
    let before : PoolSide = pool_side found (g.K.Sink.written c.args.out.now)
    (held_by g.N.Lines.memory content c.args.dev.now) c.args.steps.now in
    let after : PoolSide = pool_side found (g.K.Sink.written c.take_over.new.out)
    (held_by g.N.Lines.memory content c.take_over.new.dev) k in
    serve_left left left old program c.in-Err-take_over.status before after
    c.as_slice-words.result.now c.args.pool.now.words c.as_slice-words.ensures c.in-Ok.session d k
    told c.open_served-opened.new.dev.link.state c.in-Ok.ensures.opened
    (moves_left
    (λ (b : Device). Concludes
    (λ r w. ServesFrom r left left program c.in-Ok.session b told k after.held.device w after.steps)
    c.in-Err-take_over.status after)
    old program c.in-Ok.session d k c.in-Err-take_over.status told after c.args.pool.now.other
    c.requires.usable.other c.in-Err-take_over.ensures.over refl)

pub returns-clause-ends : goal.returns-clause-ends
returns-clause-ends g c = λ found.
    let old = c.args.pool.now.compiled.program in
    let program = c.args.program.now in
    let content = g.F.LineFile.content in
    let told : Option (List ℕ) = g.K.Sink.written c.open_served-opened.new.out in
    let d : Device = file_device g.N.Lines.memory c.open_served-opened.new.dev in
    let k : ℕ = c.open_served-opened.new.steps in
    let left = g.T.Source.left c.args.lines.now in
    let before : PoolSide = pool_side found (g.K.Sink.written c.args.out.now)
    (held_by g.N.Lines.memory content c.args.dev.now) c.args.steps.now in
    let after : PoolSide = pool_side found (g.K.Sink.written c.status_of-2.new.out)
    (held_by g.N.Lines.memory content c.serve-served.new.dev) c.serve-served.new.steps in
    let left' = g.T.Source.left c.serve-served.new.source in
    let end = c.serve-served.ensures in
    serve_over left left' old program c.status_of-2.result before after
    c.as_slice-words.result.now c.args.pool.now.words c.as_slice-words.ensures c.in-Ok.session d k
    told c.open_served-opened.new.dev.link.state c.in-Ok.ensures.opened c.args.pool.now.other
    c.requires.usable.other c.take_over.new.dev.link.state
    (file_device g.N.Lines.memory c.take_over.new.dev) (g.K.Sink.written c.take_over.new.out)
    (rw c.in_default.is at c.take_over.ensures.over) (Ok c.serve-served.result)
    (g.K.Sink.written c.serve-served.new.out) c.status_of-2.ensures.status
    (made_stands c.serve-served.result c.serve-served.new.dev.link.state end.done_kept
    end.read_kept end.given_up)
    end.served
