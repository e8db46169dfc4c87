use Rattle.std.proofs.Common.{◌≤◌, ℕ, List, Option, drop}
use Rattle.workers_session.specs.WorkersState.{IsReadyFor}
use Rattle.workers_session.specs.WorkersCommands.{Scene, scene_of}
use Rattle.workers_run.specs.WorkersRan.{RunsWorkers, BreaksOff}
use Rattle.workers_run.proofs.run.answer_workers.Given as goal

-- if the commands that are left lead on from here, then all of them lead on from the start
abbrev pub invariant-loop-given : goal.invariant-loop-given
invariant-loop-given g l =
    let dev = g.P.PmemWork.device in
    let written = g.K.Sink.written in
    let here = scene_of l.session (dev l.dev) l.steps in
    let start = scene_of l.initial.session (dev l.initial.dev) l.initial.steps in record {
      sound : IsReadyFor l.program.image l.session (dev l.dev);
      count : g.K.Sink.faults l.initial.out ≤ g.K.Sink.faults l.out;
      all : (y : Scene) (w : Option (List ℕ))
          → RunsWorkers l.program (drop l.given-index l.commands) here (written l.out) y w
          → RunsWorkers l.program l.commands start (written l.initial.out) y w;
      part : (y : Scene) (w : Option (List ℕ))
          → BreaksOff l.program (drop l.given-index l.commands) here (written l.out) y w
          → BreaksOff l.program l.commands start (written l.initial.out) y w;
    }
