use Rattle.pool_layout.specs.Sizes.{pool_lines}
use Rattle.pool_workers.specs.Compartment.{first_line}
use Rattle.workers_session.proofs.session.WorkersSession.recover.Given as goal

abbrev pub ghosts-owed_in : goal.ghosts-owed_in
ghosts-owed_in g a =
    record {
      first = first_line a.program.now.image.parts.sizes a.worker;
      lines = pool_lines a.program.now.image.parts.sizes;
      whole = g.P.PmemWork.device a.dev.now;
    }
