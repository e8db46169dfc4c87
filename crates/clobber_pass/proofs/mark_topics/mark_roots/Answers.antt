use Rattle.std.proofs.Common.{arith}
use Rattle.std.proofs.lemmas.Option.{slice_get-get_or}
use Rattle.clobber_pass.proofs.marked.Tabled.{keeps_both}
use Rattle.clobber_pass.proofs.marked.AllTopics.{more_roots, all_roots}
use Rattle.clobber_pass.proofs.mark_topics.mark_roots.Goals as goal

pub loop-index-preserved : goal.loop-index-preserved
loop-index-preserved c =
    let us = c.args.ir.now.functions in
    let roots = c.args.roots.now in
    let old = c.loop-index.table in
    let new = c.mark_root.new.table in (
      c.in_ok-mark_root.ensures.marks,
      keeps_both c.args.table.now old new c.loop-index.invariant.1
          c.in_ok-mark_root.ensures.kept,
      more_roots us roots old new c.loop-index.index _
          (slice_get-get_or roots c.loop-index.index _ c.loop-index-test.true)
          c.in_ok-mark_root.ensures.kept c.in_ok-mark_root.ensures.marked
          c.loop-index.invariant.2,
    )

pub returns-clause-marked : goal.returns-clause-marked
returns-clause-marked c = all_roots c.args.ir.now.functions c.args.roots.now c.loop-index.table
    c.loop-index.index (omega (arith, c.loop-index-test.false)) c.loop-index.invariant.2
