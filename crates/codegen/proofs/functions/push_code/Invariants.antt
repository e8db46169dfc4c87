use Rattle.std.proofs.Common.{◌≡◌, false, ◌++◌, drop}
use Rattle.codegen.specs.Emit.{code_from}
use Rattle.codegen.proofs.functions.push_code.Given as goal

abbrev pub invariant-loop-instruction : goal.invariant-loop-instruction
invariant-loop-instruction l =
    l.out ++ code_from l.sizes l.shapes l.tx l.base l.table l.place l.logged
    (drop l.instruction-index l.code)
    ≡ l.initial.out ++ code_from l.sizes l.shapes l.tx l.base l.table 0 false l.code
