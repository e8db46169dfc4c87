-- All that well formed code names exists; and a root's array field is never surely written.
use Rattle.std.proofs.Common.{◌≡◌, ◌≤◌, ℕ, List, Option, Some, None, length}
use Rattle.std.proofs.Common.{refl, sym, ◌∙◌, ap, arith}
use Rattle.std.specs.Prelude.{slice_get, option_and_then}
use Rattle.std.proofs.lemmas.Option.{slice_get_past}
use Rattle.nvm_base.proofs.Lists.{all_at}
use Rattle.pool_map.specs.declared.shapes.FieldShape.{FieldShape}
use Rattle.ir.specs.declared.instruction.Target.TheVariants.{Root}
use Rattle.ir.specs.declared.instruction.Instruction.{Instruction}
use Rattle.ir.specs.declared.instruction.Instruction.TheVariants.{Load, Store, Call}
use Rattle.ir.specs.declared.function.IrFunction.{IrFunction}
use Rattle.ir.specs.declared.function.Ir.{Ir}
use Rattle.ir.specs.Places.{instruction_at, CallsAt}
use Rattle.ir.specs.WellFormed.{IsIndexed, IsInstruction, TakesArgs, IsFunction, IsWellFormed}

-- an instruction of a well formed code, with its function
pub record Standing (ir : Ir) (i : Instruction) : Type 0 where
  pub body : IrFunction
  pub well : IsInstruction ir body.registers (length body.code) i

standing_of : (ir : Ir) (f p : ℕ) (i : Instruction) (u : Option IrFunction) → IsWellFormed ir
    → slice_get ir.functions f ≡ u
    → option_and_then (λ (u : IrFunction). slice_get u.code p) u ≡ Some i → Standing ir i
standing_of ir f p i None well there is = absurd cc
standing_of ir f p i (Some u) well there is =
    let whole : IsFunction ir u = all_at (IsFunction ir) ir.functions f u well.1 there in
    record {
      body = u;
      well = all_at (IsInstruction ir u.registers (length u.code)) u.code p i whole.3 is;
    }

pub standing : (ir : Ir) (f p : ℕ) (i : Instruction) → IsWellFormed ir
    → instruction_at ir.functions f p ≡ Some i → Standing ir i
standing ir f p i well is = standing_of ir f p i (slice_get ir.functions f) well refl is

-- a call has as many arguments as its function has parameters
pub args_count : (u : Option IrFunction) (v : IrFunction) (args : List ℕ) → TakesArgs u args
    → u ≡ Some v → length args ≡ v.parameters
args_count None v args takes is = absurd takes
args_count (Some u) v args takes is = let same : u ≡ v = cc in
    takes ∙ ap (λ (w : IrFunction). w.parameters) same

pub no_argument : (ir : Ir) (f p g to : ℕ) (args : List ℕ) (v : IrFunction) (r : ℕ)
    → IsWellFormed ir → CallsAt ir.functions f p to g args → slice_get ir.functions g ≡ Some v
    → v.parameters ≤ r → slice_get args r ≡ None
no_argument ir f p g to args v r well call there past =
    let count : length args ≡ v.parameters =
    args_count (slice_get ir.functions g) v args
    (standing ir f p (Call to g args) well call).well.2 there in
    slice_get_past args r (omega arith)

-- no store makes the root field surely written
abbrev pub NeverWritten : Ir → ℕ → Type 0
NeverWritten ir x = (f p from line : ℕ)
    → instruction_at ir.functions f p ≡ Some (Store (Root x None) from line) → ⊥

never : (r s i : ℕ) (shape : Option FieldShape) → IsIndexed r shape (Some i)
    → IsIndexed s shape None → ⊥
never r s i None array plain = absurd array
never r s i (Some shape) array plain =
    let no : None ≡ Some array.0 = sym plain ∙ array.1 in
    absurd cc

pub array_never_stored : (ir : Ir) (f p x i from line : ℕ) → IsWellFormed ir
    → instruction_at ir.functions f p ≡ Some (Store (Root x (Some i)) from line)
    → NeverWritten ir x
array_never_stored ir f p x i from line well is f' p' from' line' stores =
    let array = standing ir f p (Store (Root x (Some i)) from line) well is in
    let plain = standing ir f' p' (Store (Root x None) from' line') well stores in
    never array.body.registers plain.body.registers i (slice_get ir.shapes.root x) array.well.1
    plain.well.1

pub array_never_loaded : (ir : Ir) (f p x i to : ℕ) → IsWellFormed ir
    → instruction_at ir.functions f p ≡ Some (Load to (Root x (Some i))) → NeverWritten ir x
array_never_loaded ir f p x i to well is f' p' from' line' stores =
    let array = standing ir f p (Load to (Root x (Some i))) well is in
    let plain = standing ir f' p' (Store (Root x None) from' line') well stores in
    never array.body.registers plain.body.registers i (slice_get ir.shapes.root x) array.well.1
    plain.well.1
