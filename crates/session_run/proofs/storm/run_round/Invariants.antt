use Rattle.std.proofs.Common.{◌≡◌, ℕ, drop}
use Rattle.pmem.specs.Device.{Device}
use Rattle.pool_layout.specs.Sizes.{pool_lines}
use Rattle.cnvm_session.specs.declared.mode.Mode.{Mode}
use Rattle.session_run.specs.declared.storm.Tally.{Tally}
use Rattle.session_run.specs.Storms.{CountsAnswers}
use Rattle.session_run.proofs.storm.run_round.Given as goal

-- if the commands that are left lead on from here, then all of them lead on from the start
abbrev pub invariant-loop-at : goal.invariant-loop-at
invariant-loop-at g l =
    let dev = g.P.PmemWork.device in record {
      lines : (dev l.dev).lines ≡ pool_lines l.program.image.parts.sizes;
      same : (dev l.dev).lines ≡ (dev l.initial.dev).lines;
      leads : (t : Tally) (m : Mode) (d : Device) (k : ℕ)
          → CountsAnswers l.program (drop l.at l.commands) l.tally l.session (dev l.dev)
          l.steps t m d k
          → CountsAnswers l.program l.commands l.initial.tally l.initial.session (dev l.initial.dev)
          l.initial.steps t m d k;
    }
