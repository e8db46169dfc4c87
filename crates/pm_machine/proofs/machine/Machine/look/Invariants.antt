use Rattle.std.proofs.Common.{◌≡◌, ◌+◌, true}
use Rattle.pm_machine.specs.inside.Runs.{RestLooks}
use Rattle.pm_machine.proofs.machine.Machine.look.Given as goal

abbrev pub invariant-loop-left : goal.invariant-loop-left
invariant-loop-left g l =
    let device = g.P.PmemWork.device in
    record {
      looks : RestLooks l.image (device l.fn.dev) l.left l.steps l.self.processor
          l.image.parts.most l.fn.steps l.fn.self.processor;
      same : device l.dev ≡ device l.fn.dev;
      lines : (device l.dev).lines ≡ (device l.fn.dev).lines;
      on : (device l.dev).on ≡ true;
      spent : l.steps + l.left ≡ l.fn.steps + l.image.parts.most;
    }

abbrev pub decreases-loop-left : goal.decreases-loop-left
decreases-loop-left g l = l.left
