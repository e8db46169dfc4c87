use Rattle.pool_workers.proofs.Rooms.{compartment_within}
use Rattle.pool_workers.proofs.workers.Workers.recover_one.Goals as goal

pub recover_on-answer-requires-clause-inside : goal.recover_on-answer-requires-clause-inside
recover_on-answer-requires-clause-inside g c =
    compartment_within c.args.image.now.parts.sizes c.args.worker _ _ c.requires.worker
    c.requires.lines
