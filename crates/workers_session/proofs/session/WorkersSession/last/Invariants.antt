use Rattle.pool_layout.specs.Sizes.{pool_lines}
use Rattle.pool_workers.specs.Compartment.{first_line}
use Rattle.workers_session.proofs.session.WorkersSession.last.Given as goal

abbrev pub ghosts-last_of : goal.ghosts-last_of
ghosts-last_of g a =
    record {
      first = first_line a.image.now.parts.sizes a.worker;
      lines = pool_lines a.image.now.parts.sizes;
      whole = g.P.PmemWork.device a.dev.now;
    }
