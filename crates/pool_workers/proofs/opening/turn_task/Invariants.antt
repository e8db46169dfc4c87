use Rattle.pool_layout.specs.Sizes.{pool_lines}
use Rattle.pool_workers.specs.Compartment.{first_line}
use Rattle.pool_workers.proofs.opening.turn_task.Given as goal

abbrev pub ghosts-turn_on : goal.ghosts-turn_on
ghosts-turn_on g a =
    record {
      first = first_line a.image.now.parts.sizes a.worker;
      lines = pool_lines a.image.now.parts.sizes;
      whole = g.P.PmemWork.device a.dev.now;
      name = a.dev.ghost_name;
    }
