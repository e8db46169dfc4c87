use Rattle.std.proofs.Common.{◌≡◌, ◌++◌, drop}
use Rattle.clobber_pass.specs.inside.Calling.{edges_from}
use Rattle.clobber_pass.proofs.calling.call_edges.Given as goal

abbrev pub invariant-loop-caller : goal.invariant-loop-caller
invariant-loop-caller l = l.edges ++ edges_from l.caller (drop l.caller l.functions)
    ≡ edges_from 0 l.functions
