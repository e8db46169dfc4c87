-- A transaction's run is paired and tidy.
use Rattle.std.proofs.Common.{◌≡◌, ℕ, zero, suc, ◌+◌, ◌-◌, ◌^◌, Bool, true, false, List, [], ◌∷◌}
use Rattle.std.proofs.Common.{◌++◌, length, map, slice_get, Option, Some, ℤ, refl, sym, ap, ◌∙◌}
use Rattle.std.proofs.Common.{subst, arith}
use Rattle.std.specs.Prelude.{if◌then◌else◌, nat_lt, option_map}
use Rattle.std.specs.List.{AllByRecursion}
use Rattle.std.proofs.lemmas.Option.{slice_get-map}
use Rattle.pool_map.specs.declared.shapes.Shapes.{Shapes}
use Rattle.pool_layout.specs.declared.limits.Sizes.{Sizes}
use Rattle.ir.specs.declared.instruction.Instruction.{Instruction}
use Rattle.ir.specs.declared.instruction.Instruction.TheVariants as ir
use Rattle.ir.specs.declared.function.IrFunction.{IrFunction}
use Rattle.ir.specs.declared.function.Ir.{Ir}
use Rattle.pm_machine.specs.declared.image.Image.{Image}
use Rattle.pm_machine.specs.declared.op.Op.{Op}
use Rattle.pm_machine.specs.declared.op.Op.TheVariants as op
use Rattle.pm_machine.specs.declared.op.Function.{Function}
use Rattle.pm_machine.specs.declared.op.TxEntry.{TxEntry}
use Rattle.pm_machine.specs.Transactions as transactions
use Rattle.pm_machine.specs.Machine.{start}
use Rattle.pm_alloc.specs.declared.local.Local.{Local}
use Rattle.pm_alloc.specs.declared.local.Local.TheVariants.{Const, Mov, Bin, Jmp, Jz, Load, Store}
use Rattle.pm_alloc.specs.declared.local.Local.TheVariants.{Find, Log, Tick, Trap}
use Rattle.pm_alloc.specs.Placing.{sum, placed}
use Rattle.codegen.specs.Emit.{local_code, control, return_code, piece_width}
use Rattle.ir.specs.Moving.{is_log, place_in}
use Rattle.codegen.specs.Emit.{instruction_places, instruction_code, code_from}
use Rattle.codegen.specs.Emit.{emitted_code, has_room, trap_function, with_code, function_of}
use Rattle.codegen.specs.Emit.{txs_from}
use Rattle.machine_law.specs.emitted.Pairs.{HasPairs}
use Rattle.machine_law.specs.emitted.Tidy.{IsTidyCode, IsReturnless, OpenFramesTidy}
use Rattle.machine_law.specs.emitted.TidyCode.{HasCode, SoundRunLaw}
use Rattle.machine_law.proofs.emitted.Pairs.{paired_all}
use Rattle.machine_law.proofs.emitted.PairedCode.{emits_pairs}
use Rattle.machine_law.proofs.emitted.Tidy.{tidy_all}
use Rattle.machine_law.proofs.emitted.TidyCode.{op_at, ops_append, emits_tidy}

abbrev IsNoReturn : Op → Type 0
IsNoReturn (op.Ret a) = ⊥
IsNoReturn (op.Const r v) = Unit {0}
IsNoReturn (op.Mov r a) = Unit {0}
IsNoReturn (op.Bin o r a b) = Unit {0}
IsNoReturn (op.Jmp t) = Unit {0}
IsNoReturn (op.Jz a t) = Unit {0}
IsNoReturn (op.Load r a o) = Unit {0}
IsNoReturn (op.Find r) = Unit {0}
IsNoReturn (op.Store a o b) = Unit {0}
IsNoReturn (op.Log a o) = Unit {0}
IsNoReturn op.Flush = Unit {0}
IsNoReturn op.Fence = Unit {0}
IsNoReturn (op.Call r f args) = Unit {0}
IsNoReturn op.Tick = Unit {0}
IsNoReturn (op.Trap k) = Unit {0}
IsNoReturn (op.Halt a) = Unit {0}

placed_stays : (r p : ℕ) (l : Local) → IsNoReturn (placed r p l)
placed_stays r p (Const a v) = tt
placed_stays r p (Mov a b) = tt
placed_stays r p (Bin o a b c) = tt
placed_stays r p (Jmp t) = tt
placed_stays r p (Jz a t) = tt
placed_stays r p (Load a b o) = tt
placed_stays r p (Find a) = tt
placed_stays r p (Store a o b) = tt
placed_stays r p (Log a o) = tt
placed_stays r p Tick = tt
placed_stays r p (Trap k) = tt

piece_stays : (r p : ℕ) (piece : List Local) → AllByRecursion IsNoReturn (map (placed r p) piece)
piece_stays r p [] = tt
piece_stays r p (l ∷ piece) = (placed_stays r p l, piece_stays r p piece)

return_stays : (c : Bool) (from : ℕ) → c ≡ true → AllByRecursion IsNoReturn (return_code c from)
return_stays true from e = (tt, (tt, (tt, tt)))
return_stays false from e = absurd (cc)

control_stays : (tx : Bool) (to : ℕ → ℕ) (i : Instruction) → tx ≡ true
    → AllByRecursion IsNoReturn (control tx to i)
control_stays tx to (ir.Jump place) e = (tt, tt)
control_stays tx to (ir.Branch on place) e = (tt, tt)
control_stays tx to (ir.Call r function args) e = (tt, tt)
control_stays tx to (ir.Return from) e = return_stays tx from e
control_stays tx to (ir.Const r value) e = tt
control_stays tx to (ir.Copy r from) e = tt
control_stays tx to (ir.Bin o r left right) e = tt
control_stays tx to (ir.Load r t) e = tt
control_stays tx to (ir.Store t from line) e = tt
control_stays tx to (ir.New r kind fill line) e = tt
control_stays tx to (ir.Free from kind line) e = tt
control_stays tx to ir.Tick e = tt
control_stays tx to (ir.Trap kind) e = tt
control_stays tx to (ir.Log t) e = tt

code_stays : (s : Sizes) (h : Shapes) (tx : Bool) (r : ℕ) (table : List ℕ) (p : ℕ) (b : Bool)
    (code : List Instruction) → tx ≡ true
    → AllByRecursion IsNoReturn (code_from s h tx r table p b code)
code_stays s h tx r table p b [] e = tt
code_stays s h tx r table p b (i ∷ code) e =
    ops_append IsNoReturn (instruction_code s h tx r table p b i)
    (code_from s h tx r table (sum p (piece_width s h tx b i)) (is_log i) code)
    (ops_append IsNoReturn (control tx (place_in table) i) (map (placed r p) (local_code s h b i))
    (control_stays tx (place_in table) i e) (piece_stays r p (local_code s h b i)))
    (code_stays s h tx r table (sum p (piece_width s h tx b i)) (is_log i) code e)

returnless_from : (u : Function) → AllByRecursion IsNoReturn u.code → IsReturnless (Some u)
returnless_from u all = λ p a e. op_at IsNoReturn u.code p (op.Ret a) all e

with_if : (u : IrFunction) (ops : List Op) (d : Bool) → AllByRecursion IsNoReturn ops
    → IsReturnless (Some (if d then record {
      parameters = u.parameters;
      registers = u.registers
          + 8;
      code = ops;
    } else trap_function u.parameters))
with_if u ops true all = returnless_from
    (record { parameters = u.parameters; registers = u.registers + 8; code = ops }) all
with_if u ops false all = returnless_from (trap_function u.parameters) (tt, tt)

function_if : (s : Sizes) (h : Shapes) (u : IrFunction) (d : Bool) → u.tx ≡ true
    → IsReturnless (Some (if d then with_code u (emitted_code s h u.tx u.registers u.code)
    else trap_function u.parameters))
function_if s h u true e =
    with_if u (emitted_code s h u.tx u.registers u.code)
    (nat_lt (length (emitted_code s h u.tx u.registers u.code)) (2 ^ 32))
    (code_stays s h u.tx u.registers (instruction_places s h u.tx 0 false u.code) 0 false u.code e)
function_if s h u false e = returnless_from (trap_function u.parameters) (tt, tt)

-- an entry belongs to a function marked tx
pub record IsTx (f : ℕ) (us : List IrFunction) (entry : TxEntry) : Type 0 where
  pub number : ℕ
  pub u : IrFunction
  pub there : slice_get us number ≡ Some u
  pub marked : u.tx ≡ true
  pub is : entry.function ≡ f + number

pub tx_after : (f : ℕ) (v : IrFunction) (us : List IrFunction) (entry : TxEntry)
    → IsTx (f + 1) us entry
    → IsTx f (v ∷ us) entry
tx_after f v us entry h = record {
  number = suc h.number;
  u = h.u;
  there = h.there;
  marked = h.marked;
  is = omega (arith, h.is);
}

tx_first : (f : ℕ) (v : IrFunction) (us : List IrFunction) (first entry : TxEntry)
    → first.function ≡ f → v.tx ≡ true → Some first ≡ Some entry → IsTx f (v ∷ us) entry
tx_first f v us first entry at marked e =
    let same : first ≡ entry = cc in
    let is : entry.function ≡ f = sym (ap (λ (x : TxEntry). x.function) same) ∙ at in
    record { number = zero; u = v; there = refl; marked = marked; is = omega arith }

pub entry_if : (f : ℕ) (v : IrFunction) (us : List IrFunction)
    → ((k : ℕ) (entry : TxEntry) → slice_get (txs_from (f + 1) us) k ≡ Some entry
    → IsTx (f + 1) us entry) → (d : Bool) → v.tx ≡ d → (k : ℕ) (entry : TxEntry)
    → slice_get ((if d then record { function = f; parameters = v.parameters } ∷ [] else [])
    ++ txs_from (f + 1) us) k ≡ Some entry → IsTx f (v ∷ us) entry
entry_if f v us next true marked zero entry e =
    tx_first f v us (record { function = f; parameters = v.parameters }) entry refl marked e
entry_if f v us next true marked (suc k) entry e = tx_after f v us entry (next k entry e)
entry_if f v us next false marked k entry e = tx_after f v us entry (next k entry e)

pub entry_is : (f : ℕ) (us : List IrFunction) (k : ℕ) (entry : TxEntry)
    → slice_get (txs_from f us) k ≡ Some entry → IsTx f us entry
entry_is f [] k entry e = absurd (cc)
entry_is f (v ∷ us) k entry e = entry_if f v us (λ j x. entry_is (f + 1) us j x) v.tx refl k entry e

-- the function of an entry has no RET
entry_returnless : (s : Sizes) (h : Shapes) (us : List IrFunction) (entry : TxEntry)
    → IsTx 0 us entry → IsReturnless (slice_get (map (function_of s h) us) entry.function)
entry_returnless s h us entry tx =
    let same : tx.number ≡ entry.function = omega (arith, tx.is) in
    let found : slice_get (map (function_of s h) us) tx.number ≡ Some (function_of s h tx.u) =
    slice_get-map (function_of s h) us tx.number
    ∙ ap (λ (o : Option IrFunction). option_map (function_of s h) o) tx.there in
    subst (λ (n : ℕ). IsReturnless (slice_get (map (function_of s h) us) n)) same
    (subst IsReturnless (sym found) (function_if s h tx.u (has_room tx.u.registers tx.u.code)
    tx.marked))

start_open : (image : Image) (s : Sizes) (program : Ir) (tx : ℕ) (entry : TxEntry) (args : List ℤ)
    → HasCode image s program → slice_get image.parts.txs (tx - 1) ≡ Some entry
    → ((f : ℕ) → IsTidyCode (slice_get image.parts.functions f))
    → OpenFramesTidy image (start image tx args)
start_open image s program tx entry args has found tidy =
    let listed : slice_get (txs_from 0 program.functions) (tx - 1) ≡ Some entry =
    subst (λ (ts : List TxEntry). slice_get ts (tx - 1) ≡ Some entry) has.txs found in
    let last : IsReturnless (slice_get image.parts.functions entry.function) =
    subst (λ (us : List Function). IsReturnless (slice_get us entry.function)) (sym has.functions)
    (entry_returnless s program.shapes program.functions entry
    (entry_is 0 program.functions (tx - 1) entry listed)) in
    record {
      here = (tidy (transactions.entry_function (slice_get image.parts.txs (tx - 1)))).first;
      below = tt;
      last = subst (λ (o : Option TxEntry).
          IsReturnless (slice_get image.parts.functions (transactions.entry_function o)))
          (sym found) last;
    }

pub sound_run : SoundRunLaw
sound_run image s program k heap tx entry args end es has found ran =
    let tidy : (f : ℕ) → IsTidyCode (slice_get image.parts.functions f) =
    λ f. subst (λ (us : List Function). IsTidyCode (slice_get us f)) (sym has.functions)
    (emits_tidy s program f) in
    let pairs : AllByRecursion HasPairs image.parts.functions =
    subst (AllByRecursion HasPairs) (sym has.functions) (emits_pairs s program) in
    let opened : OpenFramesTidy image (start image tx args) =
    start_open image s program tx entry args has found tidy in (
      paired_all image k (start image tx args) heap end es pairs ran,
      tidy_all image k (start image tx args) heap end es tidy opened ran,
    )
