use Rattle.std.proofs.Common.{◌≡◌, ◌≤◌, ◌+◌, ◌-◌, ℕ, false, length, List}
use Rattle.pool_workers.specs.Crew.{task_at}
use Rattle.workers_session.specs.declared.line.WorkersLine.{WorkersLine}
use Rattle.workers_session.specs.WorkersState.{IsReadyFor}
use Rattle.workers_session.specs.WorkersCommands.{scene_of, round_from}
use Rattle.workers_session.specs.inside.Turning.{Extends, turns_in, busy_first}
use Rattle.workers_session.proofs.Turnings.{LeadsOn}
use Rattle.workers_session.proofs.session.WorkersSession.round.Given as goal

-- what is left of the round leads where all of it leads
abbrev pub invariant-loop-worker : goal.invariant-loop-worker
invariant-loop-worker g l =
    let dev = g.P.PmemWork.device in
    let all = length l.initial.self.tasks in record {
      sound : IsReadyFor l.program.image l.self (dev l.dev);
      up : l.self.down ≡ false;
      count : length l.self.tasks ≡ all;
      rest : (j : ℕ) → l.worker ≤ j → task_at l.self.tasks j ≡ task_at l.initial.self.tasks j;
      fewer : turns_in l.program.image.parts.most l.self.tasks
          + busy_first l.worker l.initial.self.tasks
          ≤ turns_in l.program.image.parts.most l.initial.self.tasks;
      lines : List WorkersLine;
      told : Extends l.initial.told l.told lines;
      leads : LeadsOn l.program (round_from l.worker (all - l.worker)) (round_from 0 all)
          (scene_of l.initial.self (dev l.initial.dev) l.initial.steps)
          (scene_of l.self (dev l.dev) l.steps) lines;
    }
