-- The lists that the emission writes, one instruction after another.
use Rattle.std.proofs.Common.{◌≡◌, ℕ, zero, suc, ◌+◌, ◌<◌, Bool, List, [], ◌∷◌, ◌++◌, drop, map}
use Rattle.std.proofs.Common.{length, get_or, Option, Some, sym, ap, ◌∙◌, arith, append_assoc}
use Rattle.std.proofs.lemmas.List.{drop_more}
use Rattle.std.specs.Prelude.{slice_get}
use Rattle.pool_map.specs.declared.shapes.Shapes.{Shapes}
use Rattle.pool_layout.specs.declared.limits.Sizes.{Sizes}
use Rattle.ir.specs.declared.instruction.Instruction.{Instruction}
use Rattle.ir.specs.declared.function.IrFunction.{IrFunction}
use Rattle.pm_machine.specs.declared.op.Op.{Op}
use Rattle.pm_machine.specs.declared.op.Function.{Function}
use Rattle.pm_alloc.specs.Placing.{sum}
use Rattle.pm_alloc.specs.declared.local.Local.{Local}
use Rattle.pm_alloc.specs.Pieces.{pointer_check}
use Rattle.codegen.specs.declared.fields.Reach.{Reach}
use Rattle.codegen.specs.Emit.{at_code, object_code, piece_width, instruction_places}
use Rattle.ir.specs.Moving.{is_log}
use Rattle.codegen.specs.Emit.{instruction_code, code_from, function_of}

drop_at : (code : List Instruction) (k : ℕ) (i : Instruction) → slice_get code k ≡ Some i
    → drop k code ≡ i ∷ drop (k + 1) code
drop_at [] k i e = absurd (cc)
drop_at (j ∷ code) zero i e = let same : j ≡ i = cc in ap (λ (l : Instruction). l ∷ code) same
drop_at (j ∷ code) (suc k) i e =
    let n : suc k + 1 ≡ suc (k + 1) = omega arith in
    drop_at code k i e ∙ ap (λ (m : ℕ). i ∷ drop m (j ∷ code)) (sym n)

pub functions_step : (s : Sizes) (h : Shapes) (out : List Function) (k : ℕ) (us : List IrFunction)
    (u : IrFunction) → k < length us → u ≡ get_or us k u
    → (out ++ function_of s h u ∷ []) ++ map (function_of s h) (drop (k + 1) us)
    ≡ out ++ map (function_of s h) (drop k us)
functions_step s h out k us u inside is =
    append_assoc out (function_of s h u ∷ []) (map (function_of s h) (drop (k + 1) us))
    ∙ ap (λ (v : IrFunction). out ++ function_of s h v ∷ map (function_of s h) (drop (k + 1) us)) is
    ∙ ap (λ (l : List IrFunction). out ++ map (function_of s h) l) (sym (drop_more us k u inside))

pub places_step : (s : Sizes) (h : Shapes) (tx : Bool) (table : List ℕ) (p q k : ℕ) (b : Bool)
    (code : List Instruction) (i : Instruction) → slice_get code k ≡ Some i
    → q ≡ sum p (piece_width s h tx b i)
    → (table ++ p ∷ []) ++ instruction_places s h tx q (is_log i)
    (drop (k + 1) code) ≡ table ++ instruction_places s h tx p b (drop k code)
places_step s h tx table p q k b code i at e =
    append_assoc table (p ∷ []) (instruction_places s h tx q (is_log i) (drop (k + 1) code))
    ∙ ap (λ (n : ℕ). table ++ p ∷ instruction_places s h tx n (is_log i) (drop (k + 1) code)) e
    ∙ ap (λ (l : List Instruction). table ++ instruction_places s h tx p b l)
    (sym (drop_at code k i at))

pub code_step : (s : Sizes) (h : Shapes) (tx : Bool) (base : ℕ) (table : List ℕ) (out : List Op)
    (p q k : ℕ) (b : Bool) (code : List Instruction) (i : Instruction) → slice_get code k ≡ Some i
    → q ≡ sum p (piece_width s h tx b i) → (out ++ instruction_code s h tx base table p b i)
    ++ code_from s h tx base table q (is_log i) (drop (k + 1) code) ≡ out ++ code_from s h tx base
    table p b (drop k code)
code_step s h tx base table out p q k b code i at e =
    append_assoc out (instruction_code s h tx base table p b i)
    (code_from s h tx base table q (is_log i) (drop (k + 1) code))
    ∙ ap (λ (n : ℕ). out ++ (instruction_code s h tx base table p b i ++ code_from s h tx base table
    n (is_log i) (drop (k + 1) code))) e
    ∙ ap (λ (l : List Instruction). out ++ code_from s h tx base table p b l)
    (sym (drop_at code k i at))

-- the checks of a pointer, followed by the check of an index
pub object_found : (old mid new : List Local) (s : Sizes) (base kind : ℕ) (o : Option Reach)
    (x : Reach) → o ≡ Some x → mid ≡ old ++ pointer_check s base kind → new ≡ mid ++ at_code 12 x.at
    → new ≡ old ++ object_code s base kind o
object_found old mid new s base kind o x is first second =
    second ∙ ap (λ (p : List Local). p ++ at_code 12 x.at) first
    ∙ append_assoc old (pointer_check s base kind) (at_code 12 x.at)
    ∙ ap (λ (r : Option Reach). old ++ object_code s base kind r) (sym is)
