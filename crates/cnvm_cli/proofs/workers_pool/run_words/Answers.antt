use Rattle.std.proofs.Common.{◌≡◌, ◌*◌, List, ℤ, inr, refl, sym, ◌∙◌, subst}
use Rattle.pool_layout.specs.Sizes.{pool_lines}
use Rattle.file_pmem.specs.File.{HoldsNewest}
use Rattle.cnvm_session.specs.Pool.{sizes_of}
use Rattle.cnvm_cli.specs.CrewOpened.{last_version}
use Rattle.cnvm_cli.specs.PoolSide.{PoolSide, held_by, pool_side}
use Rattle.cnvm_cli.specs.inside.CrewEnds.{RunsOnCrew}
use Rattle.cnvm_cli.proofs.CrewRunning.{held_by_words}
use Rattle.cnvm_cli.proofs.Taking.{runs_other}
use Rattle.cnvm_cli.proofs.workers_pool.run_words.Goals as goal

pub returns-then-are_same-clause-ends : goal.returns-then-are_same-clause-ends
returns-then-are_same-clause-ends g c = λ found.
    let content = g.F.LineFile.content in
    let before : PoolSide = pool_side found (g.K.Sink.written c.args.out.now)
    (held_by g.N.Lines.memory content c.args.dev.now) c.args.steps.now in
    let after : PoolSide = pool_side found (g.K.Sink.written c.run_held.new.out)
    (held_by g.N.Lines.memory content c.run_held.new.dev) c.run_held.new.steps in
    held_by_words c.args.crew.now.compiled.program c.args.count c.as_slice-commands.result.now
    c.args.crew.now.commands c.run_held.result c.status_of.result before after
    c.status_of.ensures.value c.as_slice-commands.ensures (content c.args.file) c.crew_lines.result
    c.args.words.now c.as_slice-held.result.now (c.are_same.ensures.same c.if-are_same.true)
    c.crew_lines.ensures.value
    (subst (λ (ws : List ℤ). HoldsNewest (content c.args.file) c.crew_lines.result ws)
    (sym c.as_slice-held.ensures) c.in-Ok.ensures.newest) c.run_held.ensures.ran

pub returns-clause-ends : goal.returns-clause-ends
returns-clause-ends g c = λ found.
    let held : List ℤ = c.in-Ok.held in
    let content = g.F.LineFile.content in
    let p = c.args.crew.now.compiled.program in
    let before : PoolSide = pool_side found (g.K.Sink.written c.args.out.now)
    (held_by g.N.Lines.memory content c.args.dev.now) c.args.steps.now in
    let after : PoolSide = pool_side found (g.K.Sink.written c.refuse.new.out)
    (held_by g.N.Lines.memory content c.args.dev.now) c.args.steps.now in
    let run = RunsOnCrew p c.args.count c.args.crew.now.commands c.refuse.result before after in
    inr (runs_other run (pool_lines (sizes_of p) * c.args.count) (last_version p c.args.count)
    (content c.args.file) c.refuse.result before after c.crew_lines.result held c.args.words.now
    c.crew_lines.ensures.value c.in-Ok.ensures.newest
    c.in-Ok.ensures.length
    (λ (e : held ≡ c.args.words.now). c.are_same.ensures.other c.if-are_same.false
    (c.as_slice-held.ensures ∙ e)) c.other_images.result c.as_slice-held.result.now
    c.other_images.ensures c.as_slice-held.ensures (c.refuse.ensures.refused, refl, refl))
