use Rattle.std.proofs.Common.{◌≡◌, drop, replicate, false}
use Rattle.clobber_pass.specs.inside.Calling.{all_called}
use Rattle.clobber_pass.proofs.calling.called_wait.Given as goal

abbrev pub invariant-loop-edge : goal.invariant-loop-edge
invariant-loop-edge l = all_called (drop l.edge-index l.edges) l.waiting.items ≡ all_called l.edges
    (replicate l.count false)
