use Rattle.std.proofs.Common.{◌≡◌, drop, false, length, List, None}
use Rattle.workers_session.specs.declared.line.WorkersLine.{WorkersLine}
use Rattle.workers_session.specs.WorkersState.{IsReadyFor, stranger_in}
use Rattle.workers_session.specs.WorkersCommands.{scene_of}
use Rattle.workers_session.specs.inside.Turning.{Extends}
use Rattle.workers_session.proofs.Turnings.{LeadsOn}
use Rattle.workers_session.proofs.session.WorkersSession.turn_list.Given as goal

-- what is left of the turns leads where all of them lead
abbrev pub invariant-loop-worker : goal.invariant-loop-worker
invariant-loop-worker g l =
    let dev = g.P.PmemWork.device in record {
      sound : IsReadyFor l.program.image l.self (dev l.dev);
      up : l.self.down ≡ false;
      known : stranger_in (length l.self.tasks) (drop l.worker-index l.workers) ≡ None;
      lines : List WorkersLine;
      told : Extends l.initial.told l.told lines;
      leads : LeadsOn l.program (drop l.worker-index l.workers) l.workers
          (scene_of l.initial.self (dev l.initial.dev) l.initial.steps)
          (scene_of l.self (dev l.dev) l.steps) lines;
    }
