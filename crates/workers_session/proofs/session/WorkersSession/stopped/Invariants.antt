use Rattle.std.proofs.Common.{◌≡◌, ◌++◌, List, drop}
use Rattle.workers_session.specs.declared.line.WorkersLine.{WorkersLine}
use Rattle.workers_session.specs.WorkersCommands.{stopped_lines}
use Rattle.workers_session.specs.inside.Turning.{Extends}
use Rattle.workers_session.proofs.session.WorkersSession.stopped.Given as goal

abbrev pub invariant-loop-worker : goal.invariant-loop-worker
invariant-loop-worker l =
    record {
      lines : List WorkersLine;
      told : Extends l.initial.told l.told lines;
      rest : lines ++ stopped_lines l.worker (drop l.worker l.self.tasks)
          ≡ stopped_lines 0 l.self.tasks;
    }
