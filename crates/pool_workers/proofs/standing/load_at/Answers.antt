use Rattle.std.proofs.Common.{arith}
use Rattle.pool_workers.proofs.Opened.{load_in}
use Rattle.pool_workers.proofs.standing.load_at.Goals as goal

pub returns-clause-value : goal.returns-clause-value
returns-clause-value g c = let lt = c.requires.word in
    load_in _ _ _ c.first_line.ensures.first _ _ _ (omega arith) c.load.ensures.value
