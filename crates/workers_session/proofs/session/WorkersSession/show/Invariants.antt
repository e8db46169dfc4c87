use Rattle.pool_layout.specs.Sizes.{pool_lines}
use Rattle.pool_workers.specs.Compartment.{first_line}
use Rattle.workers_session.proofs.session.WorkersSession.show.Given as goal

abbrev pub ghosts-text_of : goal.ghosts-text_of
ghosts-text_of g a =
    record {
      first = first_line a.program.now.image.parts.sizes a.worker;
      lines = pool_lines a.program.now.image.parts.sizes;
      whole = g.P.PmemWork.device a.dev.now;
    }
