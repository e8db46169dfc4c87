-- The content of an image with emitted code.
use Rattle.std.proofs.Common.{◌≡◌, ℕ, zero, suc, ◌+◌, ◌<◌, ◌≤◌, Bool, true, false, List, []}
use Rattle.std.proofs.Common.{◌∷◌, length, slice_get, Option, Some, refl, sym, ap, ◌∙◌, subst}
use Rattle.std.proofs.Common.{arith}
use Rattle.std.specs.Prelude.{option_map, if◌then◌else◌, nat_lt}
use Rattle.std.proofs.lemmas.Bool.{ltb-true, ltb-false}
use Rattle.std.proofs.lemmas.Option.{slice_get-map}
use Rattle.nvm_base.proofs.Lists.{all_at}
use Rattle.ir.specs.declared.instruction.Instruction.{Instruction}
use Rattle.ir.specs.declared.function.IrFunction.{IrFunction}
use Rattle.ir.specs.declared.function.Ir.{Ir}
use Rattle.ir.specs.WellFormed.{IsInstruction, IsFunction}
use Rattle.pm_machine.specs.declared.image.Image.{Image}
use Rattle.pm_machine.specs.declared.op.Function.{Function}
use Rattle.pm_machine.specs.Checked.{most_registers}
use Rattle.codegen.specs.Emit.{function_of}
use Rattle.machine_law.specs.matching.Compiled.{IsCodeOf}
use Rattle.machine_law.proofs.matching.Places.{made, made_is}

-- the greatest number of registers
greater : (n r : ℕ) (b : Bool) → nat_lt n r ≡ b → (n ≤ (if b then r else n))
    × (r ≤ (if b then r else n))
greater n r true e = let low : n < r = ltb-true n r e in (omega arith, omega arith)
greater n r false e = let high : r ≤ n = ltb-false n r e in (omega arith, high)

most_past : (n : ℕ) (us : List Function) → n ≤ most_registers n us
most_past n [] = omega arith
most_past n (v ∷ us) =
    let m : ℕ = if nat_lt n v.registers then v.registers else n in
    let rest : m ≤ most_registers m us = most_past m us in
    let low : n ≤ m = (greater n v.registers (nat_lt n v.registers) refl).0 in
    omega (arith, rest, low)

most_at : (n : ℕ) (us : List Function) (k : ℕ) (u : Function) → slice_get us k ≡ Some u
    → u.registers ≤ most_registers n us
most_at n [] k u e = absurd (cc)
most_at n (v ∷ us) zero u e =
    let same : v ≡ u = cc in
    let m : ℕ = if nat_lt n v.registers then v.registers else n in
    let rest : m ≤ most_registers m us = most_past m us in
    let high : v.registers ≤ m = (greater n v.registers (nat_lt n v.registers) refl).1 in
    let all : v.registers ≤ most_registers m us = omega (arith, rest, high) in
    subst (λ (w : Function). w.registers ≤ most_registers m us) same all
most_at n (v ∷ us) (suc k) u e = most_at (if nat_lt n v.registers then v.registers else n) us k u e

module _ (image : Image) (ir : Ir) (c : IsCodeOf image ir) where
  module _ (f : ℕ) (u : IrFunction) (found : slice_get ir.functions f ≡ Some u) where
    abbrev pub made_here : Function
    made_here = made image.parts.sizes ir.shapes u (c.room f u found)

    pub function_is : slice_get image.parts.functions f ≡ Some made_here
    function_is =
        ap (λ (us : List Function). slice_get us f) c.code.functions
        ∙ slice_get-map (function_of image.parts.sizes ir.shapes) ir.functions f
        ∙ ap (λ (o : Option IrFunction). option_map (function_of image.parts.sizes ir.shapes) o)
        found
        ∙ ap (λ (v : Function). Some v) (made_is image.parts.sizes ir.shapes u (c.room f u found))

    pub largest_room : u.registers + 8 ≤ image.largest
    largest_room =
        let at : made_here.registers ≤ most_registers 0 image.parts.functions =
        most_at 0 image.parts.functions f made_here function_is in
        subst (λ (n : ℕ). u.registers + 8 ≤ n) (sym image.most) at

    pub well_at : (p : ℕ) (i : Instruction) → slice_get u.code p ≡ Some i
        → IsInstruction ir u.registers (length u.code) i
    well_at p i e = all_at (IsInstruction ir u.registers (length u.code)) u.code p i
        (all_at (IsFunction ir) ir.functions f u c.well.1 found).3 e
