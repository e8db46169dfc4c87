use Rattle.std.proofs.Common.{◌≡◌, List, ℤ, inr, refl, sym, ap, ◌∙◌}
use Rattle.pool_layout.specs.Sizes.{pool_lines}
use Rattle.cnvm_session.specs.Pool.{sizes_of}
use Rattle.cnvm_cli.specs.PoolSide.{PoolSide, held_by, pool_side}
use Rattle.cnvm_cli.specs.inside.PoolEnds.{RunsOn}
use Rattle.cnvm_cli.proofs.Taking.{runs_held, runs_other}
use Rattle.cnvm_cli.proofs.pool.run_words.Goals as goal

pub returns-then-same-clause-ends : goal.returns-then-same-clause-ends
returns-then-same-clause-ends g c = λ found.
    let held : List ℤ = c.in-Ok.held in
    let content = g.F.LineFile.content in
    let before : PoolSide = pool_side found (g.K.Sink.written c.args.out.now)
    (held_by g.N.Lines.memory content c.args.dev.now) c.args.steps.now in
    let after : PoolSide = pool_side found (g.K.Sink.written c.run_held.new.out)
    (held_by g.N.Lines.memory content c.run_held.new.dev) c.run_held.new.steps in
    let run = RunsOn c.args.program.now c.args.script.now c.run_held.result before after in
    let n = pool_lines (sizes_of c.args.program.now) in
    inr (runs_held run n 1 (content c.args.file) c.run_held.result before after
    c.pool_lines.result held c.args.words
    (c.pool_lines.ensures ∙ ap pool_lines c.sizes.ensures) c.in-Ok.ensures.newest
    (sym c.as_slice.ensures ∙ c.are_same-same.ensures.same c.if-same.true ∙ c.as_slice-2.ensures)
    c.run_held.ensures.ran)

pub returns-clause-ends : goal.returns-clause-ends
returns-clause-ends g c = λ found.
    let held : List ℤ = c.in-Ok.held in
    let content = g.F.LineFile.content in
    let before : PoolSide = pool_side found (g.K.Sink.written c.args.out.now)
    (held_by g.N.Lines.memory content c.args.dev.now) c.args.steps.now in
    let after : PoolSide = pool_side found (g.K.Sink.written c.refuse.new.out)
    (held_by g.N.Lines.memory content c.args.dev.now) c.args.steps.now in
    let run = RunsOn c.args.program.now c.args.script.now c.refuse.result before after in
    let n = pool_lines (sizes_of c.args.program.now) in
    inr (runs_other run n 1 (content c.args.file) c.refuse.result before after
    c.pool_lines.result held c.args.words
    (c.pool_lines.ensures ∙ ap pool_lines c.sizes.ensures) c.in-Ok.ensures.newest
    c.in-Ok.ensures.length
    (λ (e : held ≡ c.args.words). c.are_same-same.ensures.other c.if-same.false
    (c.as_slice.ensures ∙ e ∙ sym c.as_slice-2.ensures)) c.other_words.result
    c.as_slice-3.result.now
    c.other_words.ensures c.as_slice-3.ensures (c.refuse.ensures.refused, refl, refl))
