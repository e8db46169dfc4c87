use Rattle.pool_workers.proofs.Opened.{load_in}
use Rattle.pool_workers.proofs.lens.LensPmemWork.load.Goals as goal

pub returns-clause-value : goal.returns-clause-value
returns-clause-value g c =
    load_in _ _ _ c.args.self.now.first_is _ _ _ c.requires c.load.ensures.value
