-- An image with the emitted code of a program, as a compiled program has it; and which of the
-- program's stores are logged.
use Rattle.std.specs.Prelude.{◌≡◌, ℕ, Bool, true, false, Option, None, Some, slice_get}
use Rattle.ir.specs.declared.instruction.Instruction.{Instruction}
use Rattle.ir.specs.declared.instruction.Instruction.TheVariants.{New}
use Rattle.ir.specs.declared.site.Site.{Site}
use Rattle.ir.specs.declared.function.IrFunction.{IrFunction}
use Rattle.ir.specs.declared.function.Ir.{Ir}
use Rattle.ir.specs.WellFormed.{IsWellFormed}
use Rattle.code_meaning.specs.Calls.{CallsNoTransaction}
use Rattle.code_meaning.specs.Constants.{HasWordConstants}
use Rattle.pm_machine.specs.declared.image.Image.{Image}
use Rattle.machine_law.specs.emitted.Standing.{logged_before, HasRoom}
use Rattle.machine_law.specs.emitted.TidyCode.{HasCode}
use Rattle.machine_law.specs.pieces.Fits.{IsFit}

-- The properties of each compiled program; the front end and the code generator ensure them.
pub record IsCodeOf (image : Image) (ir : Ir) : Type 0 where
  pub code : HasCode image image.parts.sizes ir
  pub well : IsWellFormed ir
  pub room : (f : ℕ) (u : IrFunction) → slice_get ir.functions f ≡ Some u
      → HasRoom image.parts.sizes ir.shapes u
  pub calls : CallsNoTransaction ir.functions
  pub constants : HasWordConstants ir.functions
  pub fits : IsFit image.parts.sizes ir.shapes

abbrev pub logs_fill : Option Instruction → Bool
logs_fill None = false
logs_fill (Some (New to kind fill line)) = fill
logs_fill (Some i) = false

abbrev pub logs_at : Option IrFunction → ℕ → Bool → Bool
logs_at None p fill = false
logs_at (Some u) p true = logs_fill (slice_get u.code p)
logs_at (Some u) p false = logged_before false u.code p

-- a store is logged if a log comes right before it, and the fill of a new object if its flag says
-- so
abbrev pub is_logged_in_code : Ir → Site → Bool
is_logged_in_code ir x = logs_at (slice_get ir.functions x.function) x.place x.fill
