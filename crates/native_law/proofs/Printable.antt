-- The image of a compiled program can be printed.
use Rattle.std.proofs.Common.{◌≡◌, ◌≤◌, ℕ, suc, false, List, [], ◌∷◌, length}
use Rattle.std.proofs.Common.{refl, sym, ◌∙◌, ap, arith, Option, Some, None}
use Rattle.std.specs.Prelude.{slice_get, option_map, option_and_then}
use Rattle.std.specs.List.{AllByRecursion}
use Rattle.std.proofs.lemmas.Bool.{false≢true}
use Rattle.std.proofs.lemmas.Option.{slice_get-map}
use Rattle.nvm_base.proofs.LawLemmas.{word_fits, fits_word}
use Rattle.ir.specs.declared.instruction.Instruction.{Instruction}
use Rattle.ir.specs.declared.instruction.Instruction.TheVariants as ir
use Rattle.ir.specs.declared.function.IrFunction.{IrFunction}
use Rattle.ir.specs.declared.function.Ir.{Ir}
use Rattle.ir.specs.Places.{instruction_at}
use Rattle.pm_machine.specs.declared.op.Op.{Op}
use Rattle.pm_machine.specs.declared.op.Op.TheVariants as op
use Rattle.pm_machine.specs.declared.op.Function.{Function}
use Rattle.pm_machine.specs.declared.image.Image.{Image}
use Rattle.pm_machine.specs.Machine.{fetch_in}
use Rattle.codegen.specs.Emit.{instruction_places, function_of}
use Rattle.machine_law.specs.matching.Compiled.{IsCodeOf}
use Rattle.machine_law.proofs.emitted.TidyCode.{op_at}
use Rattle.machine_law.proofs.matching.Compiled.{function_is, well_at}
use Rattle.native_law.specs.Printed.{IsPrintable}
use Rattle.native_law.proofs.Codes.{IsGood, IsFine, code_good}

all_from : (P : Instruction → Type 0) (code : List Instruction)
    → ((q : ℕ) (i : Instruction) → slice_get code q ≡ Some i → P i) → AllByRecursion P code
all_from P [] each = tt
all_from P (i ∷ code) each = (each 0 i refl, all_from P code (λ q j e. each (suc q) j e))

module _ (image : Image) (program : Ir) (c : IsCodeOf image program) where
  -- a function that may be called is no transaction
  abbrev May : ℕ → Type 0
  May g = (u : IrFunction) → slice_get program.functions g ≡ Some u → u.tx ≡ false

  abbrev few : length program.shapes.structs ≤ 255
  few = c.fits.few

  module _ (f : ℕ) (u : IrFunction) (found : slice_get program.functions f ≡ Some u) where
    placed_at : (q : ℕ) (i : Instruction) → slice_get u.code q ≡ Some i
        → instruction_at program.functions f q ≡ Some i
    placed_at q i e =
        ap (option_and_then (λ (v : IrFunction). slice_get v.code q)) found ∙ e

    fine : (q : ℕ) (i : Instruction) → slice_get u.code q ≡ Some i
        → IsFine image.parts.sizes program.shapes few May u.tx i
    fine q (ir.Const to v) e = word_fits v (c.constants f q to v (placed_at q (ir.Const to v) e))
    fine q (ir.Call to g args) e =
        λ v there. c.calls f q to g args v (placed_at q (ir.Call to g args) e) there
    fine q (ir.New to kind fill line) e =
        let is = (well_at image program c f u found q (ir.New to kind fill line) e).1 in
        let low = few in omega (arith, is.1, low)
    fine q (ir.Free from kind line) e =
        let is = (well_at image program c f u found q (ir.Free from kind line) e).1 in
        let low = few in omega (arith, is.1, low)
    fine q (ir.Copy r from) e = tt
    fine q (ir.Bin o r left right) e = tt
    fine q (ir.Jump place) e = tt
    fine q (ir.Branch on place) e = tt
    fine q (ir.Load r t) e = tt
    fine q (ir.Store t from line) e = tt
    fine q (ir.Return from) e = tt
    fine q ir.Tick e = tt
    fine q (ir.Trap kind) e = tt
    fine q (ir.Log t) e = tt

    -- each instruction of the function's code is good
    good_in : (p : ℕ) (o : Op) → fetch_in p (slice_get image.parts.functions f) ≡ Some o
        → IsGood May u.tx o
    good_in p o e =
        let s = image.parts.sizes in
        let h = program.shapes in
        let table = instruction_places s h u.tx 0 false u.code in
        let at = ap (fetch_in p) (sym (function_is image program c f u found)) ∙ e in
        op_at (IsGood May u.tx) _ p o
        (code_good s h few May u.tx u.registers table 0 false u.code
        (all_from (IsFine s h few May u.tx) u.code fine)) at

  none_there : (f : ℕ) → slice_get program.functions f ≡ None
      → slice_get image.parts.functions f ≡ None
  none_there f none =
      ap (λ (us : List Function). slice_get us f) c.code.functions
      ∙ slice_get-map (function_of image.parts.sizes program.shapes) program.functions f
      ∙ ap (option_map (function_of image.parts.sizes program.shapes)) none

  -- the function of an instruction that is fetched
  from : (f p : ℕ) (o : Op) → fetch_in p (slice_get image.parts.functions f) ≡ Some o
      → (x : Option IrFunction) → slice_get program.functions f ≡ x
      → (u : IrFunction) × (slice_get program.functions f ≡ Some u)
  from f p o e (Some u) found = (u, found)
  from f p o e None none =
      let gone : None ≡ Some o = ap (fetch_in p) (sym (none_there f none)) ∙ e in absurd (cc)

  good : (f p : ℕ) (o : Op) → fetch_in p (slice_get image.parts.functions f) ≡ Some o
      → (u : IrFunction) × (slice_get program.functions f ≡ Some u) × IsGood May u.tx o
  good f p o e =
      let u = from f p o e (slice_get program.functions f) refl in
      (u.0, u.1, good_in f u.0 u.1 p o e)

  pub printable : IsPrintable image.parts.functions
  printable = record {
    const = λ f p r v e. fits_word v (good f p (op.Const r v) e).2;
    load = λ f p r a o e. fits_word o (good f p (op.Load r a o) e).2;
    store = λ f p a b o e. fits_word o (good f p (op.Store a o b) e).2;
    log = λ f p a o e. fits_word o (good f p (op.Log a o) e).2;
    returns = λ f p r g args e q a halts.
        let called = (good f p (op.Call r g args) e).2 in
        let in_it = good g q (op.Halt a) halts in
        absurd (false≢true (sym (called in_it.0 in_it.1) ∙ in_it.2));
  }
