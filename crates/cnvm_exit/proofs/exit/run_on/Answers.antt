use Rattle.cnvm_exit.proofs.Exiting.{memory_ends, never_ends}
use Rattle.cnvm_exit.proofs.exit.run_on.Goals as goal

pub returns-in-Some-clause-never : goal.returns-in-Some-clause-never
returns-in-Some-clause-never g c = never_ends _ _ c.run_with.ensures.source

pub returns-in-None-clause-source : goal.returns-in-None-clause-source
returns-in-None-clause-source g c = memory_ends _
