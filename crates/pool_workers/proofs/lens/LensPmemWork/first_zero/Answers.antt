use Rattle.pool_workers.proofs.Opened.{first_zero_in}
use Rattle.pool_workers.proofs.lens.LensPmemWork.first_zero.Goals as goal

pub returns-clause-value : goal.returns-clause-value
returns-clause-value g c =
    first_zero_in _ _ _ c.args.self.now.first_is _ _ _ _ _ c.requires.apart
    c.requires.inside
    c.first_zero.ensures.value
