use Rattle.std.proofs.Common.{◌≡◌, ◌++◌, drop}
use Rattle.clobber_pass.specs.inside.Marking.{headers}
use Rattle.clobber_pass.proofs.place_marks.headers.Given as goal

abbrev pub invariant-loop-instruction : goal.invariant-loop-instruction
invariant-loop-instruction l = l.marks.items ++ headers (drop l.instruction-index l.code)
    ≡ headers l.code
