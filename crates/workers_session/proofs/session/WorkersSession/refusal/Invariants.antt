use Rattle.pool_layout.specs.Sizes.{pool_lines}
use Rattle.pool_workers.specs.Compartment.{first_line}
use Rattle.workers_session.proofs.session.WorkersSession.refusal.Given as goal

abbrev pub ghosts-standing_of : goal.ghosts-standing_of
ghosts-standing_of g a =
    record {
      first = first_line a.image.now.parts.sizes a.worker;
      lines = pool_lines a.image.now.parts.sizes;
      whole = g.P.PmemWork.device a.dev.now;
    }
