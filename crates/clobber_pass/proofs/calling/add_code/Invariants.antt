use Rattle.std.proofs.Common.{◌≡◌, ◌++◌, drop}
use Rattle.clobber_pass.specs.inside.Calling.{edges_in}
use Rattle.clobber_pass.proofs.calling.add_code.Given as goal

abbrev pub invariant-loop-instruction : goal.invariant-loop-instruction
invariant-loop-instruction l = l.edges ++ edges_in l.caller (drop l.instruction-index l.code)
    ≡ l.initial.edges ++ edges_in l.caller l.code
