use Rattle.std.proofs.Common.{◌≡◌, List, ℤ, inr, refl, sym, ap, ◌∙◌}
use Rattle.pool_layout.specs.Sizes.{pool_lines}
use Rattle.cnvm_session.specs.Pool.{sizes_of}
use Rattle.cnvm_cli.specs.PoolSide.{PoolSide, held_by, pool_side}
use Rattle.cnvm_cli.specs.inside.ServeEnds.{ServesOn}
use Rattle.cnvm_cli.proofs.Standing.{stands_at, opened_by}
use Rattle.cnvm_cli.proofs.Taking.{runs_held, runs_other}
use Rattle.cnvm_cli.proofs.serving.serve_words.Goals as goal

pub returns-then-are_same-clause-ends : goal.returns-then-are_same-clause-ends
returns-then-are_same-clause-ends g c = λ found.
    let held : List ℤ = c.in-Ok.held in
    let content = g.F.LineFile.content in
    let before : PoolSide = pool_side found (g.K.Sink.written c.args.out.now)
    (held_by g.N.Lines.memory content c.args.dev.now) c.args.steps.now in
    let after : PoolSide = pool_side found (g.K.Sink.written c.status_of.new.out)
    (held_by g.N.Lines.memory content c.serve_held-served.new.dev) c.serve_held-served.new.steps in
    let left = g.T.Source.left c.args.lines.now in
    let left' = g.T.Source.left c.serve_held-served.new.source in
    let run = ServesOn left left' c.args.program.now c.status_of.result before after in
    let end = c.serve_held-served.ensures in
    let n = pool_lines (sizes_of c.args.program.now) in
    inr (runs_held run n 1 (content c.args.file) c.status_of.result before after
    c.pool_lines.result held c.args.words.now
    (c.pool_lines.ensures ∙ ap pool_lines c.sizes.ensures) c.in-Ok.ensures.newest
    (sym c.as_slice-held.ensures ∙ c.are_same.ensures.same c.if-are_same.true) (
      c.serve_held-served.result,
      _,
      c.status_of.ensures.status,
      stands_at c.serve_held-served.result _ end.done_kept end.read_kept end.given_up,
      opened_by c.serve_held-served.result left left' c.args.program.now
          c.as_slice-held.result.now held _ _ _ _ _ _ c.as_slice-held.ensures end.served,
    ))

pub returns-clause-ends : goal.returns-clause-ends
returns-clause-ends g c = λ found.
    let held : List ℤ = c.in-Ok.held in
    let content = g.F.LineFile.content in
    let before : PoolSide = pool_side found (g.K.Sink.written c.args.out.now)
    (held_by g.N.Lines.memory content c.args.dev.now) c.args.steps.now in
    let after : PoolSide = pool_side found (g.K.Sink.written c.refuse.new.out)
    (held_by g.N.Lines.memory content c.args.dev.now) c.args.steps.now in
    let left = g.T.Source.left c.args.lines.now in
    let run = ServesOn left left c.args.program.now c.refuse.result before after in
    let n = pool_lines (sizes_of c.args.program.now) in
    inr (runs_other run n 1 (content c.args.file) c.refuse.result before after
    c.pool_lines.result held c.args.words.now
    (c.pool_lines.ensures ∙ ap pool_lines c.sizes.ensures) c.in-Ok.ensures.newest
    c.in-Ok.ensures.length
    (λ (e : held ≡ c.args.words.now). c.are_same.ensures.other c.if-are_same.false
    (c.as_slice-held.ensures ∙ e)) c.other_words.result c.as_slice-held.result.now
    c.other_words.ensures c.as_slice-held.ensures (c.refuse.ensures.refused, refl, refl))
