use Rattle.std.proofs.Common.{rules, ◌≡◌, ◌≤◌, length, arith}
use Rattle.clobber_pass.proofs.marked.Tabled.{keeps_both}
use Rattle.clobber_pass.proofs.marked.AllTopics.{more_fields, all_fields}
use Rattle.clobber_pass.proofs.mark_topics.mark_fields.Goals as goal

pub loop-left-preserved : goal.loop-left-preserved
loop-left-preserved c =
    let us = c.args.ir.now.functions in
    let all = c.split_at.result.0.now in
    let others = c.split_at.result.1.now in
    let old = c.loop-left.table in
    let new = c.mark_some.new.table in
    let few : length all ≤ 16 = omega (arith, c.split_at.ensures.front_len, c.min.ensures) in (
      c.in_ok-mark_some.ensures.marks,
      keeps_both c.args.table.now old new c.loop-left.invariant.1
          c.in_ok-mark_some.ensures.kept,
      more_fields us c.args.fields.now c.loop-left.left.now all others old new
          c.split_at.ensures.by_index.0 few c.in_ok-mark_some.ensures.kept
          c.in_ok-mark_some.ensures.marked c.loop-left.invariant.2,
    )

pub returns-clause-marked : goal.returns-clause-marked
returns-clause-marked c =
    let empty : length c.loop-left.left.now ≡ 0 = search rules in
    all_fields c.args.ir.now.functions c.args.fields.now c.loop-left.left.now c.loop-left.table
    empty c.loop-left.invariant.2
