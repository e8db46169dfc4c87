use Rattle.std.proofs.Common.{◌≡◌, length}
use Rattle.pool_workers.specs.Crew.{AreTasks, AreUncut, HasCompartments}
use Rattle.workers_tables.proofs.runs.begin_all.Given as goal

abbrev pub invariant-loop-worker : goal.invariant-loop-worker
invariant-loop-worker g l = record {
  tasks : AreTasks l.image l.workers;
  uncut : AreUncut l.workers;
  lines : HasCompartments l.image l.workers (g.P.PmemWork.device l.dev);
  count : length l.workers ≡ length l.initial.workers;
}
