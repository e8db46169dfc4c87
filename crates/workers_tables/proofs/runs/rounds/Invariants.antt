use Rattle.std.proofs.Common.{◌≡◌, length}
use Rattle.pool_workers.specs.Crew.{AreTasks, AreUncut, HasCompartments}
use Rattle.workers_tables.proofs.runs.rounds.Given as goal

abbrev pub invariant-loop : goal.invariant-loop
invariant-loop g l = record {
  tasks : AreTasks l.image l.workers;
  uncut : AreUncut l.workers;
  lines : HasCompartments l.image l.workers (g.P.PmemWork.device l.dev);
  count : length l.workers ≡ length l.initial.workers;
}
