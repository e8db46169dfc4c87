use Rattle.std.proofs.Common.{rules, ◌∙◌}
use Rattle.pool_workers.proofs.Makes.{all_next, part_next, part_first, room}
use Rattle.pool_workers.proofs.creating.create_all.Goals as goal

pub create_at-requires-clause-lines : goal.create_at-requires-clause-lines
create_at-requires-clause-lines g c =
    room c.args.sizes.now c.args.digest.now c.loop-worker.worker c.args.count c.first_line.result
    c.loop-worker-test.true c.first_line.ensures.first (g.P.PmemWork.device c.loop-worker.dev)
    (c.loop-worker.invariant.lines ∙ c.requires.lines)

pub returns-in-Err-clause-refused : goal.returns-in-Err-clause-refused
returns-in-Err-clause-refused g c =
    c.loop-worker.invariant.part _ _
    (part_first c.args.sizes.now c.args.digest.now c.loop-worker.worker c.args.count
    c.first_line.result c.loop-worker-test.true c.first_line.ensures.first _ _ _
    c.in-Err.ensures.refused)

pub loop-worker-preserved : goal.loop-worker-preserved
loop-worker-preserved g c = record {
  lines = search rules;
  all = λ b rest. c.loop-worker.invariant.all b
      (all_next c.args.sizes.now c.args.digest.now c.loop-worker.worker c.args.count
      c.first_line.result c.loop-worker-test.true c.first_line.ensures.first _ _ b
      c.in_default.ensures.done rest);
  part = λ why b rest. c.loop-worker.invariant.part why b
      (part_next c.args.sizes.now c.args.digest.now c.loop-worker.worker c.args.count
      c.first_line.result c.loop-worker-test.true c.first_line.ensures.first _ why _ b
      c.in_default.ensures.done rest);
}
