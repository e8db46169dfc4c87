use Rattle.std.proofs.Common.{◌+◌, rules}
use Rattle.cache_model.specs.Event.{Flush}
use Rattle.args_log.proofs.Lists.{flushes_at, all_one, part_one, part_now}
use Rattle.args_log.proofs.sealing.flush_payload.Goals as goal

pub returns-in-Err-clause-refused : goal.returns-in-Err-clause-refused
returns-in-Err-clause-refused g c =
    c.loop-k.invariant.part _ _
    (part_now _ _ _ (Flush (3 + c.loop-k.k)) _ _
    (flushes_at 3 c.loop-k.k c.args.count c.loop-k-test.true) c.in-Err.ensures.refused)

pub loop-k-preserved : goal.loop-k-preserved
loop-k-preserved g c = record {
  lines = search rules;
  all = λ b rest. c.loop-k.invariant.all b
      (all_one _ _ (Flush (3 + c.loop-k.k)) _ _ b
      (flushes_at 3 c.loop-k.k c.args.count c.loop-k-test.true) c.in_default.ensures.done rest);
  part = λ why b rest. c.loop-k.invariant.part why b
      (part_one why _ _ (Flush (3 + c.loop-k.k)) _ _ b
      (flushes_at 3 c.loop-k.k c.args.count c.loop-k-test.true) c.in_default.ensures.done rest);
}
