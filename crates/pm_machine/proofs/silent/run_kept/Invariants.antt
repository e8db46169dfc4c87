use Rattle.std.proofs.Common.{◌≡◌, ◌≤◌, ◌+◌, ℕ, length}
use Rattle.pm_machine.specs.Machine.{State}
use Rattle.pm_machine.specs.inside.Kept.{all_words}
use Rattle.pm_machine.specs.inside.Runs.{RestLeads, RestLooks, worked}
use Rattle.pm_machine.proofs.silent.run_kept.Given as goal

abbrev pub invariant-loop-left : goal.invariant-loop-left
invariant-loop-left g l =
    let device = g.P.PmemWork.device in
    record {
      leads : (n : ℕ) (s : State) → s.top.function ≡ l.function
          → RestLeads l.image (device l.dev) l.left l.steps
          (worked s (all_words n l.kept) l.ticks l.place)
          l.fn.from.left l.fn.steps
          (worked s (all_words n l.fn.kept) l.fn.from.ticks l.fn.from.place);
      looks : (n : ℕ) (s : State) → s.top.function ≡ l.function
          → RestLooks l.image (device l.dev) l.left l.steps
          (worked s (all_words n l.kept) l.ticks l.place)
          l.fn.from.left l.fn.steps
          (worked s (all_words n l.fn.kept) l.fn.from.ticks l.fn.from.place);
      spent : l.steps + l.left ≡ l.fn.steps + l.fn.from.left;
      fewer : l.left ≤ l.fn.from.left;
      size : length l.kept ≡ length l.fn.kept;
    }

abbrev pub decreases-loop-left : goal.decreases-loop-left
decreases-loop-left g l = l.left
