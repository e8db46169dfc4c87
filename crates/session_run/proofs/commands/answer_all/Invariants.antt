use Rattle.std.proofs.Common.{◌≡◌, ◌≤◌, ℕ, List, Option, Bool, false, drop}
use Rattle.pmem.specs.Device.{Device}
use Rattle.pool_layout.specs.Sizes.{pool_lines}
use Rattle.session_run.specs.Commands.{RunsAndWrites, RunsPart}
use Rattle.session_run.proofs.commands.answer_all.Given as goal

-- if the commands that are left lead on from here, then all of them lead on from the start
abbrev pub invariant-loop-given : goal.invariant-loop-given
invariant-loop-given g l =
    let dev = g.P.PmemWork.device in
    let written = g.K.Sink.written in record {
      lines : (dev l.dev).lines ≡ pool_lines l.program.image.parts.sizes;
      count : g.K.Sink.faults l.initial.out ≤ g.K.Sink.faults l.out;
      all : (d : Device) (w : Option (List ℕ)) (k : ℕ) (u : Bool)
          → RunsAndWrites l.program (drop l.given-index l.commands) l.session (dev l.dev)
          (written l.out) l.steps l.unmet d w k u
          → RunsAndWrites l.program l.commands l.initial.session (dev l.initial.dev)
          (written l.initial.out) l.initial.steps false d w k u;
      part : (d : Device) (w : Option (List ℕ)) (k : ℕ)
          → RunsPart l.program (drop l.given-index l.commands) l.session (dev l.dev) (written l.out)
          l.steps d w k
          → RunsPart l.program l.commands l.initial.session (dev l.initial.dev)
          (written l.initial.out) l.initial.steps d w k;
    }
