use Rattle.pool_workers.proofs.Rooms.{compartment_within}
use Rattle.pool_workers.proofs.workers.Workers.turn.Goals as goal

pub turn_task-answer-requires-clause-inside : goal.turn_task-answer-requires-clause-inside
turn_task-answer-requires-clause-inside g c =
    compartment_within c.args.image.now.parts.sizes c.args.worker _ _ c.requires.worker
    c.requires.lines
