-- The line at which a run stopped: that of a token of the instruction in whose code the machine
-- stands.
use Rattle.std.specs.Prelude.{ℕ, ◌-◌, not, List, length, take, Option, None, Some, false}
use Rattle.std.specs.Prelude.{option_map, slice_get, nat_le}
use Rattle.std.specs.List.{filter}
use Rattle.pool_map.specs.declared.trap.TrapKind.{TrapKind}
use Rattle.pool_map.specs.declared.shapes.Shapes.{Shapes}
use Rattle.pool_layout.specs.declared.limits.Sizes.{Sizes}
use Rattle.c_tree.specs.ItemTree.{FunctionTree}
use Rattle.c_tree.specs.Program.{Program, tree_of, source_line}
use Rattle.c_types.specs.Tables.{tables_of}
use Rattle.ir.specs.declared.instruction.Instruction.{Instruction}
use Rattle.ir.specs.declared.function.IrFunction.{IrFunction}
use Rattle.ir.specs.declared.function.Ir.{Ir}
use Rattle.ir.specs.Moving.{is_log}
use Rattle.codegen.specs.Emit.{instruction_places}
use Rattle.pm_machine.specs.declared.stop.Stop.{Stop}
use Rattle.trap_line.specs.declared.spot.Spot.{Spot}
use Rattle.trap_line.specs.Spots.{function_spots, token_of}

-- how many instructions begin at a place or before it
abbrev pub begun : List ℕ → (place : ℕ) → ℕ
begun places place = length (filter (λ p. nat_le p place) places)

-- how many of the first n instructions are no logs
abbrev pub unlogged : List Instruction → ℕ → ℕ
unlogged code n = length (filter (λ i. not (is_log i)) (take n code))

-- The tokens of the instruction in whose code a place is. `code` has logs; `spots` are those of the
-- code without them.
abbrev pub spot_at : List Spot → List Instruction → List ℕ → (place : ℕ) → Option Spot
spot_at spots code places place = slice_get spots (unlogged code (begun places place) - 1)

abbrev pub spot_in : Sizes → Shapes → FunctionTree → IrFunction → (place : ℕ) → Option Spot
spot_in s h f u place =
    spot_at (function_spots f) u.code (instruction_places s h u.tx 0 false u.code) place

abbrev pub spot_of : Sizes → Shapes → Option FunctionTree → Option IrFunction → (place : ℕ)
    → Option Spot
spot_of s h (Some f) (Some u) place = spot_in s h f u place
spot_of s h (Some f) None place = None
spot_of s h None u place = None

-- The line of a trap of this kind at a stop of a program's machine code, for a pool of these sizes.
-- `logged` is the program's code with its logs.
abbrev pub trap_line : Program → (logged : Ir) → Sizes → Stop → TrapKind → Option ℕ
trap_line tree logged s stop kind =
    option_map (λ spot. source_line tree (token_of spot kind))
    (spot_of s logged.shapes (slice_get (tables_of (tree_of tree)).functions stop.function)
    (slice_get logged.functions stop.function) stop.place)
