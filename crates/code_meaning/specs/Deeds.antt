-- The effects of a run of intermediate code on the words of the pool: the loads of root words and
-- field words, and the stores, each with its site. A new object stores its header, which is its
-- kind, and then 0 to each of its words; a free stores 0 to a header. The headers that a check or
-- the search for a free slot reads don't count as loads. A log has no effect.
use Rattle.std.specs.Prelude.{ℕ, zero, suc, ℤ, pos, Bool, true, false, List, [], ◌∷◌, ◌++◌, Option}
use Rattle.std.specs.Prelude.{None, Some, Result, Ok, Err}
use Rattle.pool_map.specs.declared.shapes.Shapes.{Shapes}
use Rattle.pool_map.specs.declared.trap.TrapKind.{TrapKind}
use Rattle.pool_map.specs.PoolFits.{words_of}
use Rattle.pool_map.specs.PoolMap.{PoolMap, least_free}
use Rattle.ir.specs.declared.instruction.Instruction.{Instruction}
use Rattle.ir.specs.declared.instruction.Instruction.TheVariants.{Const, Copy, Bin, Jump, Branch}
use Rattle.ir.specs.declared.instruction.Instruction.TheVariants.{Load, Store, New, Free, Call}
use Rattle.ir.specs.declared.instruction.Instruction.TheVariants.{Return, Tick, Trap, Log}
use Rattle.ir.specs.declared.site.Site.{Site}
use Rattle.ir.specs.declared.function.Ir.{Ir}
use Rattle.ir.specs.Places.{instruction_at}
use Rattle.code_meaning.specs.Code.{CodeState, Here, Move, Goes, Ends, Spot, InSlot, register_at}
use Rattle.code_meaning.specs.Code.{spot_of, slot_of, fields_of, base_in, index_in}
use Rattle.code_meaning.specs.Code.{instruction_step}

pub data Deed : Type 0 where
  Reads : Spot → Deed
  Writes : Site → Spot → ℤ → Deed
  -- a store to a slot's header
  Heads : Site → (slot : ℕ) → ℤ → Deed

abbrev pub if_ok : {A B : Type 0} → Result A TrapKind → (A → List B) → List B
if_ok (Ok a) go = go a
if_ok (Err k) go = []

-- stores of 0 to n words of a slot, from word i on
abbrev pub zeros : Site → (slot i n : ℕ) → List Deed
zeros site s i zero = []
zeros site s i (suc n) = Writes site (InSlot s i) (pos 0) ∷ zeros site s (suc i) n

abbrev pub site : (f p : ℕ) → Bool → Site
site f p fill = record { function = f; place = p; fill = fill }

abbrev pub deeds_new : (f p kind words : ℕ) → Option ℕ → List Deed
deeds_new f p kind words None = []
deeds_new f p kind words (Some s) =
    Heads (site f p false) s (pos kind) ∷ zeros (site f p true) s 0 words

-- the deeds of the instruction at place p of function f
abbrev pub deeds_at : Shapes → (f p : ℕ) → List ℤ → PoolMap → Option Instruction → List Deed
deeds_at shapes f p regs w None = []
deeds_at shapes f p regs w (Some (Load to x)) =
    if_ok (spot_of shapes w x (base_in regs x) (index_in regs x)) (λ s. Reads s ∷ [])
deeds_at shapes f p regs w (Some (Store x from line)) =
    if_ok (spot_of shapes w x (base_in regs x) (index_in regs x))
    (λ s. Writes (site f p false) s (register_at regs from) ∷ [])
deeds_at shapes f p regs w (Some (New to kind log_fill line)) =
    deeds_new f p kind (words_of (fields_of shapes kind)) (least_free w)
deeds_at shapes f p regs w (Some (Free from kind line)) =
    if_ok (slot_of w kind (register_at regs from)) (λ s. Heads (site f p false) s (pos 0) ∷ [])
deeds_at shapes f p regs w (Some (Const to v)) = []
deeds_at shapes f p regs w (Some (Copy to from)) = []
deeds_at shapes f p regs w (Some (Bin o to a b)) = []
deeds_at shapes f p regs w (Some (Jump q)) = []
deeds_at shapes f p regs w (Some (Branch on q)) = []
deeds_at shapes f p regs w (Some (Call to g args)) = []
deeds_at shapes f p regs w (Some (Return from)) = []
deeds_at shapes f p regs w (Some Tick) = []
deeds_at shapes f p regs w (Some (Trap k)) = []
deeds_at shapes f p regs w (Some (Log x)) = []

-- the deeds of a step
abbrev pub deeds_of : Ir → CodeState → List Deed
deeds_of ir (Here f p regs below w t) =
    deeds_at ir.shapes f p regs w (instruction_at ir.functions f p)

abbrev pub deeds_on : (CodeState → List Deed) → Move → List Deed
deeds_on rest (Goes c) = rest c
deeds_on rest (Ends e) = []

-- the deeds of at most k steps, in order
abbrev pub deeds : Ir → ℕ → CodeState → List Deed
deeds ir zero c = []
deeds ir (suc k) c = deeds_of ir c ++ deeds_on (deeds ir k) (instruction_step ir c)
