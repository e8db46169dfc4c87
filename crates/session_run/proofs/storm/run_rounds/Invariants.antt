use Rattle.std.proofs.Common.{◌≡◌, ◌-◌, ℕ}
use Rattle.pmem.specs.Device.{Device}
use Rattle.pool_layout.specs.Sizes.{pool_lines}
use Rattle.cnvm_session.specs.declared.mode.Mode.{Mode}
use Rattle.session_run.specs.declared.storm.Tally.{Tally}
use Rattle.session_run.specs.Storms.{Rounds, RoundsPart}
use Rattle.session_run.proofs.storm.run_rounds.Given as goal

-- if the rounds that are left lead on from here, then all of them lead on from the start
abbrev pub invariant-loop-round : goal.invariant-loop-round
invariant-loop-round g l =
    let dev = g.P.PmemWork.device in record {
      lines : (dev l.dev).lines ≡ pool_lines l.program.image.parts.sizes;
      same : (dev l.dev).lines ≡ (dev l.initial.dev).lines;
      leads : (t : Tally) (m : Mode) (d : Device) (k : ℕ)
          → Rounds l.program l.order.reach l.storm (l.order.count - l.round) l.tally l.session
          (dev l.dev) l.steps t m d k
          → Rounds l.program l.order.reach l.initial.storm l.order.count l.initial.tally
          l.initial.session (dev l.initial.dev) l.initial.steps t m d k;
      part : (d : Device) (k : ℕ)
          → RoundsPart l.program l.order.reach l.storm (l.order.count - l.round) l.tally l.session
          (dev l.dev) l.steps d k
          → RoundsPart l.program l.order.reach l.initial.storm l.order.count l.initial.tally
          l.initial.session (dev l.initial.dev) l.initial.steps d k;
    }
