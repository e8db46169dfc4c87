use Rattle.std.proofs.Common.{◌≡◌, drop}
use Rattle.clobber_pass.specs.inside.Calling.{woken}
use Rattle.clobber_pass.proofs.calling.wake_callers.Given as goal

abbrev pub invariant-loop-edge : goal.invariant-loop-edge
invariant-loop-edge l = woken (drop l.edge-index l.edges) l.called l.waiting
    ≡ woken l.edges l.called l.initial.waiting
