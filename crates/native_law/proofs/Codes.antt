-- The emitted code of a function: its constants are words, it calls only functions that may be
-- called, and that of a function that is no transaction has no HALT.
use Rattle.std.proofs.Common.{◌≡◌, ◌≤◌, ℕ, Bool, true, false, List, [], ◌∷◌, map}
use Rattle.std.proofs.Common.{length, refl}
use Rattle.std.specs.Prelude.{FitsSigned}
use Rattle.std.specs.Int.{w64}
use Rattle.std.specs.List.{AllByRecursion}
use Rattle.pool_layout.specs.declared.limits.Sizes.{Sizes}
use Rattle.pool_map.specs.declared.shapes.Shapes.{Shapes}
use Rattle.ir.specs.Moving.{is_log, place_in}
use Rattle.ir.specs.declared.instruction.Instruction.{Instruction}
use Rattle.ir.specs.declared.instruction.Instruction.TheVariants as ir
use Rattle.pm_machine.specs.declared.op.Op.{Op}
use Rattle.pm_machine.specs.declared.op.Op.TheVariants as op
use Rattle.pm_alloc.specs.declared.local.Local.{Local}
use Rattle.pm_alloc.specs.declared.local.Local.TheVariants.{Const, Mov, Bin, Jmp, Jz, Load, Store}
use Rattle.pm_alloc.specs.declared.local.Local.TheVariants.{Find, Log, Tick, Trap}
use Rattle.pm_alloc.specs.Placing.{sum, placed}
use Rattle.codegen.specs.Emit.{local_code, control, return_code, piece_width, instruction_code}
use Rattle.codegen.specs.Emit.{code_from}
use Rattle.machine_law.proofs.emitted.TidyCode.{ops_append}
use Rattle.native_law.proofs.Fits.{Fits, AllFit, HasWords, locals_fit}

-- functions of May may be called; from a transaction the run may HALT
abbrev pub IsGood : (ℕ → Type 0) → Bool → Op → Type 0
IsGood May tx (op.Const r v) = FitsSigned w64 v
IsGood May tx (op.Load r a o) = FitsSigned w64 o
IsGood May tx (op.Store a o b) = FitsSigned w64 o
IsGood May tx (op.Log a o) = FitsSigned w64 o
IsGood May tx (op.Call r g args) = May g
IsGood May tx (op.Halt a) = tx ≡ true
IsGood May tx (op.Mov r a) = Unit {0}
IsGood May tx (op.Bin o r a b) = Unit {0}
IsGood May tx (op.Jmp t) = Unit {0}
IsGood May tx (op.Jz a t) = Unit {0}
IsGood May tx (op.Find r) = Unit {0}
IsGood May tx op.Flush = Unit {0}
IsGood May tx op.Fence = Unit {0}
IsGood May tx (op.Ret a) = Unit {0}
IsGood May tx op.Tick = Unit {0}
IsGood May tx (op.Trap k) = Unit {0}

module _ (s : Sizes) (h : Shapes) (few : length h.structs ≤ 255) (May : ℕ → Type 0) (tx : Bool)
  where
    abbrev pub AllGood : List Op → Type 0
    AllGood ops = AllByRecursion (IsGood May tx) ops

    placed_good : (base p : ℕ) (l : Local) → Fits l → IsGood May tx (placed base p l)
    placed_good base p (Const r v) f = f
    placed_good base p (Mov r a) f = tt
    placed_good base p (Bin o r a b) f = tt
    placed_good base p (Jmp t) f = tt
    placed_good base p (Jz a t) f = tt
    placed_good base p (Load r a o) f = f
    placed_good base p (Store a o b) f = f
    placed_good base p (Find r) f = tt
    placed_good base p (Log a o) f = f
    placed_good base p Tick f = tt
    placed_good base p (Trap k) f = tt

    piece_good : (base p : ℕ) (code : List Local) → AllFit code → AllGood (map (placed base p) code)
    piece_good base p [] f = tt
    piece_good base p (l ∷ code) f = (placed_good base p l f.0, piece_good base p code f.1)

    -- what an instruction must be for that
    abbrev pub IsFine : Instruction → Type 0
    IsFine (ir.Call to g args) = May g
    IsFine i = HasWords s h few i

    return_good : (t : Bool) → tx ≡ t → (from : ℕ) → AllGood (return_code t from)
    return_good true e from = (tt, (tt, (e, tt)))
    return_good false e from = (tt, tt)

    control_good : (to : ℕ → ℕ) (i : Instruction) → IsFine i → AllGood (control tx to i)
    control_good to (ir.Jump place) f = (tt, tt)
    control_good to (ir.Branch on place) f = (tt, tt)
    control_good to (ir.Call r g args) f = (f, tt)
    control_good to (ir.Return from) f = return_good tx refl from
    control_good to (ir.Const r v) f = tt
    control_good to (ir.Copy r from) f = tt
    control_good to (ir.Bin o r left right) f = tt
    control_good to (ir.Load r t) f = tt
    control_good to (ir.Store t from line) f = tt
    control_good to (ir.New r kind fill line) f = tt
    control_good to (ir.Free from kind line) f = tt
    control_good to ir.Tick f = tt
    control_good to (ir.Trap kind) f = tt
    control_good to (ir.Log t) f = tt

    fine_words : (i : Instruction) → IsFine i → HasWords s h few i
    fine_words (ir.Const to v) f = f
    fine_words (ir.New to kind fill line) f = f
    fine_words (ir.Free from kind line) f = f
    fine_words (ir.Copy r from) f = tt
    fine_words (ir.Bin o r left right) f = tt
    fine_words (ir.Jump place) f = tt
    fine_words (ir.Branch on place) f = tt
    fine_words (ir.Load r t) f = tt
    fine_words (ir.Store t from line) f = tt
    fine_words (ir.Call r g args) f = tt
    fine_words (ir.Return from) f = tt
    fine_words ir.Tick f = tt
    fine_words (ir.Trap kind) f = tt
    fine_words (ir.Log t) f = tt

    pub code_good : (base : ℕ) (table : List ℕ) (p : ℕ) (b : Bool) (code : List Instruction)
        → AllByRecursion IsFine code → AllGood (code_from s h tx base table p b code)
    code_good base table p b [] fine = tt
    code_good base table p b (i ∷ code) fine =
        let next : ℕ = sum p (piece_width s h tx b i) in
        ops_append (IsGood May tx) (instruction_code s h tx base table p b i)
        (code_from s h tx base table next (is_log i) code)
        (ops_append (IsGood May tx) (control tx (place_in table) i)
        (map (placed base p) (local_code s h b i)) (control_good (place_in table) i fine.0)
        (piece_good base p (local_code s h b i)
        (locals_fit s h few b i (fine_words i fine.0))))
        (code_good base table next (is_log i) code fine.1)
