-- The image of a well formed program has few functions, each with few instructions.
use Rattle.std.proofs.Common.{◌≡◌, ◌+◌, ◌^◌, Bool, true, false, List, [], ◌∷◌, length, map}
use Rattle.std.proofs.Common.{refl, arith}
use Rattle.std.specs.Prelude.{if◌then◌else◌, nat_lt}
use Rattle.std.specs.List.{AllByRecursion}
use Rattle.std.proofs.lemmas.Bool.{ltb-true}
use Rattle.std.proofs.lemmas.List.{length-map}
use Rattle.pool_map.specs.declared.shapes.Shapes.{Shapes}
use Rattle.pool_layout.specs.declared.limits.Sizes.{Sizes}
use Rattle.ir.specs.declared.function.IrFunction.{IrFunction}
use Rattle.ir.specs.declared.function.Ir.{Ir}
use Rattle.ir.specs.WellFormed.{IsWellFormed}
use Rattle.pm_machine.specs.declared.op.Op.{Op}
use Rattle.pm_machine.specs.Few.{IsShortFunction, AreFew}
use Rattle.codegen.specs.Emit.{has_room, trap_function, with_code, emitted_code, function_of}
use Rattle.codegen.specs.Emit.{functions_of}

with_code_short_if : (u : IrFunction) (ops : List Op) (b : Bool) → nat_lt (length ops) (2 ^ 32) ≡ b
    → IsShortFunction (if b then record {
      parameters = u.parameters;
      registers = u.registers
          + 8;
      code = ops;
    } else trap_function u.parameters)
with_code_short_if u ops true e = ltb-true (length ops) (2 ^ 32) e
with_code_short_if u ops false e = omega arith

function_short_if : (u : IrFunction) (ops : List Op) (b : Bool)
    → IsShortFunction (if b then with_code u ops else trap_function u.parameters)
function_short_if u ops true = with_code_short_if u ops (nat_lt (length ops) (2 ^ 32)) refl
function_short_if u ops false = omega arith

functions_short : (s : Sizes) (h : Shapes) (us : List IrFunction)
    → AllByRecursion IsShortFunction (map (function_of s h) us)
functions_short s h [] = tt
functions_short s h (u ∷ us) = (
  function_short_if u (emitted_code s h u.tx u.registers u.code) (has_room u.registers u.code),
  functions_short s h us,
)

pub functions_few : (s : Sizes) (program : Ir) → IsWellFormed program
    → AreFew (functions_of s program)
functions_few s program formed = (
  omega (arith, formed.0, length-map program.functions (function_of s program.shapes)),
  functions_short s program.shapes program.functions,
)
