use Rattle.pool_workers.proofs.Opened.{flush_in, flush_aside}
use Rattle.pool_workers.proofs.lens.LensPmemWork.flush.Goals as goal

pub invariant_of-self-clause-aside : goal.invariant_of-self-clause-aside
invariant_of-self-clause-aside g c =
    flush_aside _ _ _ c.args.self.now.first_is _ c.args.self.now.fenced g.O.Loan.whole.cache _ _
    _ c.requires c.flush.ensures.answer c.args.self.now.aside

pub returns-clause-answer : goal.returns-clause-answer
returns-clause-answer g c =
    flush_in _ _ _ c.args.self.now.first_is _ _ _ _ c.requires c.flush.ensures.answer
