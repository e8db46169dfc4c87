use Rattle.std.proofs.Common.{◌≡◌, ◌++◌, map, drop}
use Rattle.codegen.specs.Emit.{function_of}
use Rattle.codegen.proofs.emission.machine_functions.Given as goal

abbrev pub invariant-loop-function : goal.invariant-loop-function
invariant-loop-function l =
    l.emitted ++ map (function_of l.sizes l.shapes) (drop l.function-index l.functions)
    ≡ map (function_of l.sizes l.shapes) l.functions
