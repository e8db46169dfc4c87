use Rattle.std.proofs.Common.{FitsSigned, w64}
use Rattle.std.proofs.lemmas.Int.{to_z-of_z}
use Rattle.pool_workers.proofs.Opened.{store_in, store_aside}
use Rattle.pool_workers.proofs.lens.LensPmemWork.store.Goals as goal

pub invariant_of-self-clause-aside : goal.invariant_of-self-clause-aside
invariant_of-self-clause-aside g c =
    store_aside _ _ _ c.args.self.now.first_is _ _ c.args.self.now.fenced g.O.Loan.whole.cache _
    _ _ c.requires c.store.ensures.answer c.args.self.now.aside

pub returns-clause-answer : goal.returns-clause-answer
returns-clause-answer g c =
    let fits : FitsSigned w64 c.args.value = c.ranges.value in
    store_in _ _ _ c.args.self.now.first_is _ c.args.value _ _ _ _
    (to_z-of_z w64 c.args.value fits) c.requires c.store.ensures.answer
