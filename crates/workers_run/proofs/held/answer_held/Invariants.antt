use Rattle.std.proofs.Common.{◌≡◌, ◌≤◌, ℕ, List, Option, drop}
use Rattle.file_pmem.specs.Mirror.{file_device}
use Rattle.file_pmem.specs.declared.link.MirrorState.TheVariants.{Awake}
use Rattle.workers_session.specs.WorkersState.{IsReadyFor}
use Rattle.workers_session.specs.WorkersCommands.{Scene, scene_of}
use Rattle.workers_run.specs.WorkersRan.{RunsWorkers, BreaksOff}
use Rattle.workers_run.specs.WorkersHeld.{RunsSome}
use Rattle.workers_run.proofs.held.answer_held.Given as goal

-- if the commands that are left lead on from here, then all of them lead on from the start
abbrev pub invariant-loop-given : goal.invariant-loop-given
invariant-loop-given g l =
    let written = g.K.Sink.written in
    let before = file_device g.N.Lines.memory l.initial.dev in
    let now = file_device g.N.Lines.memory l.dev in
    let left = drop l.given-index l.commands in
    let here = scene_of l.session now l.steps in
    let start = scene_of l.initial.session before l.initial.steps in record {
      sound : IsReadyFor l.program.image l.session now;
      awake : l.dev.link.state ≡ Awake;
      count : g.K.Sink.faults l.initial.out ≤ g.K.Sink.faults l.out;
      all : (y : Scene) (w : Option (List ℕ)) → RunsWorkers l.program left here (written l.out) y w
          → RunsWorkers l.program l.commands start (written l.initial.out) y w;
      part : (y : Scene) (w : Option (List ℕ)) → BreaksOff l.program left here (written l.out) y w
          → BreaksOff l.program l.commands start (written l.initial.out) y w;
      some : (y : Scene) (w : Option (List ℕ)) → RunsSome l.program left here (written l.out) y w
          → RunsSome l.program l.commands start (written l.initial.out) y w;
    }
