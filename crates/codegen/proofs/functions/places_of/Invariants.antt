use Rattle.std.proofs.Common.{◌≡◌, false, ◌++◌, drop}
use Rattle.codegen.specs.Emit.{instruction_places}
use Rattle.codegen.proofs.functions.places_of.Given as goal

abbrev pub invariant-loop-instruction : goal.invariant-loop-instruction
invariant-loop-instruction l =
    l.table.items ++ instruction_places l.sizes l.shapes l.tx l.place l.logged
    (drop l.instruction-index l.code) ≡ instruction_places l.sizes l.shapes l.tx 0 false l.code
