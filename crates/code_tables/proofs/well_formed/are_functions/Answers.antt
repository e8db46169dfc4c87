use Rattle.ir.specs.WellFormed.{IsFunction}
use Rattle.code_tables.proofs.Checks.{all_from, all_after}
use Rattle.code_tables.proofs.well_formed.are_functions.Goals as goal

pub loop-function-preserved : goal.loop-function-preserved
loop-function-preserved c = record {
  sound = λ afterwards. c.loop-function.invariant.sound
      (all_from (IsFunction c.args.ir.now) c.args.functions.now c.loop-function.function-index
      c.function-item.result c.loop-function-test.true c.function-item.is
      (c.is_function.ensures.sound c.if-not-is_function.false) afterwards);
  complete = λ all. all_after (IsFunction c.args.ir.now) c.args.functions.now
      c.loop-function.function-index c.function-item.result c.loop-function-test.true
      (c.loop-function.invariant.complete all);
}
