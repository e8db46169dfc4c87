use Rattle.pool_workers.proofs.Opened.{fence_in, fence_aside}
use Rattle.pool_workers.proofs.lens.LensPmemWork.fence.Goals as goal

pub invariant_of-self-clause-aside : goal.invariant_of-self-clause-aside
invariant_of-self-clause-aside g c =
    fence_aside _ _ c.args.self.now.fenced g.O.Loan.whole.cache _ _ _ c.in-Done.is
    c.fence-answer.ensures.answer c.args.self.now.aside

pub returns-in-Done-clause-answer : goal.returns-in-Done-clause-answer
returns-in-Done-clause-answer g c = fence_in _ _ _ _ _ c.fence-answer.ensures.answer
