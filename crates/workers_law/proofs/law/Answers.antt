use Rattle.workers_law.proofs.Compartments.{apart, compartment, compartment_images}
use Rattle.workers_law.proofs.Insides.{insides}
use Rattle.workers_law.proofs.law.Goals as goal
use Rattle.pool_workers.proofs.Windows.{own_event}
use Rattle.workers_law.proofs.Asides.{aside_in}

pub returns-clause-event : goal.returns-clause-event
returns-clause-event c = (own_event, aside_in, apart)

pub returns-clause-compartment : goal.returns-clause-compartment
returns-clause-compartment c = compartment

pub returns-clause-images : goal.returns-clause-images
returns-clause-images c = compartment_images

pub returns-clause-inside : goal.returns-clause-inside
returns-clause-inside c = insides
