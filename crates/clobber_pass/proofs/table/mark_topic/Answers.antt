use Rattle.clobber_pass.specs.inside.Marking.{Marked}
use Rattle.clobber_pass.proofs.bits.Rounds.{below_next}
use Rattle.clobber_pass.proofs.marked.Tabled.{keeps_both, marked_keeps}
use Rattle.clobber_pass.proofs.table.mark_topic.Goals as goal

pub loop-function-preserved : goal.loop-function-preserved
loop-function-preserved c =
    let us = c.args.ir.now.functions in
    let old = c.loop-function.table in
    let new = c.mark_function.new.table in (
      c.in_ok-mark_function.ensures.marks,
      keeps_both c.args.table.now old new c.loop-function.invariant.1
          c.in_ok-mark_function.ensures.kept,
      below_next (Marked us c.args.topic new) c.loop-function.function (λ f less.
          marked_keeps us c.args.topic old new f c.in_ok-mark_function.ensures.kept
          (c.loop-function.invariant.2 f less)) c.in_ok-mark_function.ensures.marked,
    )
