use Rattle.std.proofs.Common.{◌≡◌, ◌<◌, ◌-◌, ℕ, true, None, length, List}
use Rattle.pool_workers.specs.Crew.{task_at, AreTasks, HasCompartments}
use Rattle.workers_session.specs.declared.line.WorkersLine.{WorkersLine}
use Rattle.workers_session.specs.WorkersCommands.{scene_of}
use Rattle.workers_session.specs.inside.Turning.{Extends}
use Rattle.workers_session.proofs.Turnings.{LeadsBack}
use Rattle.workers_session.proofs.session.WorkersSession.recoveries.Given as goal

-- what is left of the recoveries leads where all of them lead
abbrev pub invariant-loop-worker : goal.invariant-loop-worker
invariant-loop-worker g l =
    let dev = g.P.PmemWork.device in
    let all = length l.initial.self.tasks in record {
      tasks : AreTasks l.program.image l.self.tasks;
      devices : HasCompartments l.program.image l.self.tasks (dev l.dev);
      count : length l.self.tasks ≡ all;
      on : (dev l.dev).on ≡ true;
      idle : (j : ℕ) → j < l.worker → task_at l.self.tasks j ≡ None;
      lines : List WorkersLine;
      told : Extends l.initial.told l.told lines;
      leads : LeadsBack l.program l.worker (all - l.worker) all
          (scene_of l.initial.self (dev l.initial.dev) l.initial.steps)
          (scene_of l.self (dev l.dev) l.steps) lines;
    }
