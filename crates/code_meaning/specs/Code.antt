-- The meaning of intermediate code, one instruction per step: a table of the instructions over
-- pools. The call stack holds the open functions, each with its place and its registers, at most
-- 256 of them. The registers of a function are a map from all numbers; those that were never
-- written hold 0, and the first ones hold its arguments.
--
-- A load, a store and a free make their checks: null and stale of the pointer, then index. A log
-- has no effect, and neither has the flag of a new.
use Rattle.std.specs.Prelude.{◌≡◌, ℕ, zero, suc, ◌+◌, ℤ, pos, negsuc, Bool, false, List}
use Rattle.std.specs.Prelude.{[], ◌∷◌, map, length, Option, None, Some, Result, Ok, Err, option_map}
use Rattle.std.specs.Prelude.{if◌then◌else◌, nat_lt, nat_eq, slice_get}
use Rattle.std.specs.Option.{option_map_or}
use Rattle.nvm_base.specs.declared.op.BinOp.{BinOp}
use Rattle.nvm_base.specs.declared.op.BinOp.TheVariants as op
use Rattle.nvm_base.specs.Operations as word
use Rattle.pool_map.specs.declared.object.Object.{Object}
use Rattle.pool_map.specs.declared.shapes.FieldShape.{FieldShape}
use Rattle.pool_map.specs.declared.shapes.StructShape.{StructShape}
use Rattle.pool_map.specs.declared.shapes.Shapes.{Shapes}
use Rattle.pool_map.specs.declared.trap.TrapKind.{TrapKind}
use Rattle.pool_map.specs.declared.trap.TrapKind.TheVariants as trap
use Rattle.pool_map.specs.PoolFits.{words_of, words_of_field}
use Rattle.pool_map.specs.PoolMap.{PoolMap, object_at, least_free, free}
-- a word of the pool: of the root, or of the object in a slot
pub use Rattle.pool_map.specs.declared.word.PoolWord.{PoolWord as Spot}
pub use Rattle.pool_map.specs.declared.word.PoolWord.TheVariants.{Root as InRoot, Field as InSlot}
pub use Rattle.pool_map.specs.Words.{read_word as load_spot, write_word as store_spot}
use Rattle.ir.specs.declared.instruction.Target.{Target}
use Rattle.ir.specs.declared.instruction.Target.TheVariants.{Root, Field}
use Rattle.ir.specs.declared.instruction.Instruction.{Instruction}
use Rattle.ir.specs.declared.instruction.Instruction.TheVariants.{Const, Copy, Bin, Jump, Branch}
use Rattle.ir.specs.declared.instruction.Instruction.TheVariants.{Load, Store, New, Free, Call}
use Rattle.ir.specs.declared.instruction.Instruction.TheVariants.{Return, Tick, Trap, Log}
use Rattle.ir.specs.declared.function.IrFunction.{IrFunction}
use Rattle.ir.specs.declared.function.Ir.{Ir}
use Rattle.ir.specs.WellFormed.{struct_of}
use Rattle.ir.specs.Places.{instruction_at}
use Rattle.pool_map.specs.Checks.{then_on, element_in, new_at, is_zero, unless_zero}

-- a caller: its function, the place to return to, its registers, and the register for the result
pub data Frame : Type 0 where
  frame : (f p : ℕ) → List ℤ → (to : ℕ) → Frame

-- the innermost open function, its place and its registers, its callers, the innermost first, the
-- pool, and the ticks left
pub data CodeState : Type 0 where
  Here : (f p : ℕ) → List ℤ → List Frame → PoolMap → (ticks : ℕ) → CodeState

pub data CodeEnd : Type 0 where
  Ended : PoolMap → ℤ → (ticks : ℕ) → CodeEnd
  Trapped : TrapKind → CodeEnd
  Unfinished : CodeEnd
  -- the run is at a place without an instruction, or at a call of no function
  Stuck : CodeEnd

pub data Move : Type 0 where
  Goes : CodeState → Move
  Ends : CodeEnd → Move

-- registers
abbrev pub register_at : List ℤ → ℕ → ℤ
register_at [] n = pos 0
register_at (v ∷ vs) zero = v
register_at (v ∷ vs) (suc n) = register_at vs n

abbrev pub put_register : List ℤ → ℕ → ℤ → List ℤ
put_register [] zero v = v ∷ []
put_register [] (suc n) v = pos 0 ∷ put_register [] n v
put_register (u ∷ us) zero v = v ∷ us
put_register (u ∷ us) (suc n) v = u ∷ put_register us n v

abbrev pub word_of : BinOp → ℤ → ℤ → Option ℤ
word_of op.Div a b = unless_zero b (word.div a b)
word_of op.Rem a b = unless_zero b (word.rem a b)
word_of op.Add a b = Some (word.add a b)
word_of op.Sub a b = Some (word.sub a b)
word_of op.Mul a b = Some (word.mul a b)
word_of op.Shl a b = Some (word.shl a b)
word_of op.Shr a b = Some (word.shr a b)
word_of op.And a b = Some (word.and_of a b)
word_of op.Or a b = Some (word.or_of a b)
word_of op.Xor a b = Some (word.xor_of a b)
word_of op.Lt a b = Some (word.less a b)
word_of op.Le a b = Some (word.le a b)
word_of op.Eq a b = Some (word.eq a b)
word_of op.Ne a b = Some (word.ne a b)
word_of op.Ult a b = Some (word.ult a b)
word_of op.Ule a b = Some (word.ule a b)
word_of op.Udiv a b = unless_zero b (word.udiv a b)
word_of op.Urem a b = unless_zero b (word.urem a b)
word_of op.Ushr a b = Some (word.ushr a b)

abbrev pub is_kind : Option Object → ℕ → Bool
is_kind None kind = false
is_kind (Some object) kind = nat_eq object.kind kind

-- the checks null and stale
abbrev pub slot_of : PoolMap → (kind : ℕ) → ℤ → Result ℕ TrapKind
slot_of p kind (pos zero) = Err trap.Null
slot_of p kind (pos (suc n)) = if is_kind (object_at p (suc n)) kind then Ok (suc n)
    else Err trap.Stale
slot_of p kind (negsuc n) = Err trap.Stale

-- the word at which field n begins, and its elements
abbrev pub words_before : ℕ → List FieldShape → ℕ
words_before n [] = 0
words_before zero (f ∷ fs) = 0
words_before (suc n) (f ∷ fs) = words_of_field f + words_before n fs

abbrev pub elements : Option FieldShape → ℕ
elements None = 0
elements (Some f) = option_map_or (λ n. n) f.length 0

abbrev pub word_in_shape : List FieldShape → ℕ → Option ℤ → Result ℕ TrapKind
word_in_shape fs n None = Ok (words_before n fs)
word_in_shape fs n (Some index) =
    then_on (element_in (elements (slice_get fs n)) index) (λ i. Ok (words_before n fs + i))

abbrev pub fields_of : Shapes → ℕ → List FieldShape
fields_of shapes kind = option_map_or (λ (s : StructShape). s.fields) (struct_of shapes kind) []

-- the word that a target names, given the pointer in its base and the number in its index, if it
-- has one
abbrev pub spot_of : Shapes → PoolMap → Target → (pointer : ℤ) → Option ℤ → Result Spot TrapKind
spot_of shapes p (Root field index) pointer j =
    then_on (word_in_shape shapes.root field j) (λ i. Ok (InRoot i))
spot_of shapes p (Field base kind field index) pointer j =
    then_on (slot_of p kind pointer) (λ s. then_on (word_in_shape (fields_of shapes kind) field j)
    (λ i. Ok (InSlot s i)))

abbrev pub base_in : List ℤ → Target → ℤ
base_in regs (Root field index) = pos 0
base_in regs (Field base kind field index) = register_at regs base

abbrev pub index_in : List ℤ → Target → Option ℤ
index_in regs (Root field index) = option_map (register_at regs) index
index_in regs (Field base kind field index) = option_map (register_at regs) index

abbrev pub new_in : Shapes → PoolMap → ℕ → ℤ × PoolMap
new_in shapes p kind = new_at p kind (words_of (fields_of shapes kind)) (least_free p)

abbrev pub free_in : PoolMap → (kind : ℕ) → ℤ → Result PoolMap TrapKind
free_in p kind pointer = then_on (slot_of p kind pointer) (λ s. Ok (free p s))

abbrev pub with_word : Option ℤ → (ℤ → Move) → Move
with_word None go = Ends (Trapped trap.Divide)
with_word (Some v) go = go v

abbrev pub with_ok : {A : Type 0} → Result A TrapKind → (A → Move) → Move
with_ok (Err k) go = Ends (Trapped k)
with_ok (Ok a) go = go a

abbrev pub takes_tick : ℕ → (ℕ → Move) → Move
takes_tick zero go = Ends (Trapped trap.Steps)
takes_tick (suc t) go = go t

-- the innermost function returns a word
abbrev pub gives : List Frame → ℤ → PoolMap → ℕ → Move
gives [] v w t = Ends (Ended w v t)
gives (frame f p regs to ∷ below) v w t = Goes (Here f p (put_register regs to v) below w t)

-- the greatest number of open functions
abbrev pub open_limit : ℕ
open_limit = 256

-- opens a function above those that are open
abbrev pub opens : Option IrFunction → ℕ → List ℤ → List Frame → PoolMap → ℕ → Move
opens None g args below w t = Ends Stuck
opens (Some u) g args below w t = if nat_lt (length below) open_limit
    then Goes (Here g 0 args below w t) else Ends (Trapped trap.Depth)

abbrev pub act : Ir → Option Instruction → (f p : ℕ) → List ℤ → List Frame → PoolMap
    → (ticks : ℕ) → Move
act ir None f p regs below w t = Ends Stuck
act ir (Some (Const to v)) f p regs below w t =
    Goes (Here f (suc p) (put_register regs to v) below w t)
act ir (Some (Copy to from)) f p regs below w t =
    Goes (Here f (suc p) (put_register regs to (register_at regs from)) below w t)
act ir (Some (Bin o to a b)) f p regs below w t =
    with_word (word_of o (register_at regs a) (register_at regs b))
    (λ v. Goes (Here f (suc p) (put_register regs to v) below w t))
act ir (Some (Jump q)) f p regs below w t = Goes (Here f q regs below w t)
act ir (Some (Branch on q)) f p regs below w t = if is_zero (register_at regs on)
    then Goes (Here f q regs below w t) else Goes (Here f (suc p) regs below w t)
act ir (Some (Load to x)) f p regs below w t =
    with_ok (spot_of ir.shapes w x (base_in regs x) (index_in regs x))
    (λ s. Goes (Here f (suc p) (put_register regs to (load_spot w s)) below w t))
act ir (Some (Store x from line)) f p regs below w t =
    with_ok (spot_of ir.shapes w x (base_in regs x) (index_in regs x))
    (λ s. Goes (Here f (suc p) regs below (store_spot w s (register_at regs from)) t))
act ir (Some (New to kind log_fill line)) f p regs below w t =
    Goes (Here f (suc p) (put_register regs to (new_in ir.shapes w kind).0) below
    (new_in ir.shapes w kind).1 t)
act ir (Some (Free from kind line)) f p regs below w t =
    with_ok (free_in w kind (register_at regs from)) (λ w. Goes (Here f (suc p) regs below w t))
act ir (Some (Call to g args)) f p regs below w t =
    opens (slice_get ir.functions g) g (map (register_at regs) args)
    (frame f (suc p) regs to ∷ below) w t
act ir (Some (Return from)) f p regs below w t = gives below (register_at regs from) w t
act ir (Some Tick) f p regs below w t = takes_tick t (λ t. Goes (Here f (suc p) regs below w t))
act ir (Some (Trap k)) f p regs below w t = Ends (Trapped k)
act ir (Some (Log x)) f p regs below w t = Goes (Here f (suc p) regs below w t)

abbrev pub instruction_step : Ir → CodeState → Move
instruction_step ir (Here f p regs below w t) =
    act ir (instruction_at ir.functions f p) f p regs below w t

abbrev pub go_on : (CodeState → CodeEnd) → Move → CodeEnd
go_on rest (Goes c) = rest c
go_on rest (Ends e) = e

-- at most k steps
abbrev pub exec : Ir → ℕ → CodeState → CodeEnd
exec ir zero c = Unfinished
exec ir (suc k) c = go_on (exec ir k) (instruction_step ir c)

abbrev pub IsOver : CodeEnd → Type 0
IsOver (Ended w v t) = Unit {0}
IsOver (Trapped k) = Unit {0}
IsOver Unfinished = ⊥
IsOver Stuck = Unit {0}

-- only function f is open, at its entry
abbrev pub code_start : ℕ → List ℤ → PoolMap → ℕ → CodeState
code_start f args w t = Here f 0 args [] w t

-- the code's meaning: within some number of steps its run ends like this
abbrev pub Means : Ir → ℕ → List ℤ → PoolMap → ℕ → CodeEnd → Type 0
Means ir f args w t e = IsOver e × ((k : ℕ) × (exec ir k (code_start f args w t) ≡ e))
