use Rattle.std.proofs.Common.{◌-◌}
use Rattle.std.specs.List.{slice_get}
use Rattle.recovery.proofs.Recorded.{given_few, given_all}
use Rattle.recovery.proofs.recovering.given.Goals as goal

pub returns-then-count : goal.returns-then-count
returns-then-count c = λ w holds.
    given_few (slice_get c.args.image.now.parts.txs (c.args.tx - 1)) c.parameters-count.result
    c.args.args.now w c.parameters-count.ensures c.if-count.true c.told-args holds

pub returns-else-count : goal.returns-else-count
returns-else-count c = λ w holds.
    given_all (slice_get c.args.image.now.parts.txs (c.args.tx - 1)) c.parameters-count.result
    c.args.args.now w c.parameters-count.ensures c.if-count.false c.told-args holds
