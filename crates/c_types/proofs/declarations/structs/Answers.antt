use Rattle.std.proofs.Common.{◌+◌, ap}
use Rattle.c_types.proofs.Elements.{drop_at}
use Rattle.c_types.proofs.Told.{told_append}
use Rattle.c_types.proofs.declarations.structs.Goals as goal

pub loop-layout-preserved : goal.loop-layout-preserved
loop-layout-preserved c =
    let here = drop_at c.args.structs.now c.loop-layout.layout-index c.layout-item.result
    c.loop-layout-test.true c.layout-item.is in
    record {
      at_index = ap (λ n. n + 1) c.loop-layout.invariant.at_index;
      told_so = rw (c.whole_struct.ensures, ← told_append)
          (rw here at c.loop-layout.invariant.told_so);
    }
