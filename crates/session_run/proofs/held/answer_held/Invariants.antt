use Rattle.std.proofs.Common.{◌≡◌, ◌≤◌, ℕ, List, Option, Bool, false, drop}
use Rattle.pmem.specs.Device.{Device}
use Rattle.file_pmem.specs.Mirror.{file_device}
use Rattle.file_pmem.specs.declared.link.MirrorState.TheVariants.{Awake}
use Rattle.pool_layout.specs.Sizes.{pool_lines}
use Rattle.session_run.specs.Commands.{RunsAndWrites, RunsPart}
use Rattle.session_run.specs.Held.{RunsSome}
use Rattle.session_run.proofs.held.answer_held.Given as goal

-- if the commands that are left lead on from here, then all of them lead on from the start
abbrev pub invariant-loop-given : goal.invariant-loop-given
invariant-loop-given g l =
    let written = g.K.Sink.written in
    let before = file_device g.N.Lines.memory l.initial.dev in
    let now = file_device g.N.Lines.memory l.dev in
    let left = drop l.given-index l.commands in record {
      lines : now.lines ≡ pool_lines l.program.image.parts.sizes;
      awake : l.dev.link.state ≡ Awake;
      count : g.K.Sink.faults l.initial.out ≤ g.K.Sink.faults l.out;
      all : (d : Device) (w : Option (List ℕ)) (k : ℕ) (u : Bool)
          → RunsAndWrites l.program left l.session now
          (written l.out) l.steps l.unmet d w k u
          → RunsAndWrites l.program l.commands l.initial.session before
          (written l.initial.out) l.initial.steps false d w k u;
      part : (d : Device) (w : Option (List ℕ)) (k : ℕ)
          → RunsPart l.program left l.session now
          (written l.out) l.steps d w k
          → RunsPart l.program l.commands l.initial.session before
          (written l.initial.out) l.initial.steps d w k;
      some : (d : Device) (w : Option (List ℕ)) (k : ℕ)
          → RunsSome l.program left l.session now
          (written l.out) l.steps l.unmet d w k
          → RunsSome l.program l.commands l.initial.session before
          (written l.initial.out) l.initial.steps false d w k;
    }
