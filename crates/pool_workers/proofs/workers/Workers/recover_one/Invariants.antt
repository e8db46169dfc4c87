use Rattle.pool_layout.specs.Sizes.{pool_lines}
use Rattle.pool_workers.specs.Compartment.{first_line}
use Rattle.pool_workers.proofs.workers.Workers.recover_one.Given as goal

abbrev pub ghosts-recover_on : goal.ghosts-recover_on
ghosts-recover_on g a =
    record {
      first = first_line a.image.now.parts.sizes a.worker;
      lines = pool_lines a.image.now.parts.sizes;
      whole = g.P.PmemWork.device a.dev.now;
    }
