use Rattle.cnvm_exit.proofs.Exiting.{ends_on}
use Rattle.cnvm_exit.proofs.exit.run_with.Goals as goal

pub returns-clause-source : goal.returns-clause-source
returns-clause-source g c =
    ends_on _ _ _ _ _ _ c.cnvm-status.ensures.source
    (rw c.world_on-world.ensures.dev c.new.ensures) c.new-steps.ensures
