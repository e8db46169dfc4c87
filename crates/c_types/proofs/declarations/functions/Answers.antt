use Rattle.std.proofs.Common.{◌+◌, ap}
use Rattle.c_types.proofs.Elements.{drop_at}
use Rattle.c_types.proofs.Told.{told_append}
use Rattle.c_types.proofs.declarations.functions.Goals as goal

pub loop-function-preserved : goal.loop-function-preserved
loop-function-preserved c =
    let here = drop_at c.args.functions.now c.loop-function.function-index c.function-item.result
    c.loop-function-test.true c.function-item.is in
    record {
      at_index = ap (λ n. n + 1) c.loop-function.invariant.at_index;
      told_so = rw (c.in_ok-whole_function.ensures, ← told_append)
          (rw here at c.loop-function.invariant.told_so);
    }
