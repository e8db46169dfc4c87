-- Each instruction: if the rest of the run is covered, so is the run from here on.
use Rattle.std.proofs.Common.{◌≡◌, ℕ, zero, suc, ℤ, Bool, true, false, if◌then◌else◌, List, ◌++◌}
use Rattle.std.proofs.Common.{Option, None, Some, slice_get, refl, inl, inr}
use Rattle.std.proofs.lemmas.Bool.{false≢true}
use Rattle.nvm_base.specs.declared.op.BinOp.{BinOp}
use Rattle.pool_map.specs.PoolMap.{PoolMap, least_free}
use Rattle.ir.specs.declared.instruction.Instruction.{Instruction}
use Rattle.ir.specs.declared.instruction.Instruction.TheVariants.{Const, Copy, Bin, Jump, Branch}
use Rattle.ir.specs.declared.instruction.Instruction.TheVariants.{Load, Store, New, Free, Call}
use Rattle.ir.specs.declared.instruction.Instruction.TheVariants.{Return, Tick, Trap, Log}
use Rattle.ir.specs.declared.function.Ir.{Ir}
use Rattle.ir.specs.declared.site.Site.{Site}
use Rattle.ir.specs.Places.{instruction_at}
use Rattle.ir.specs.WellFormed.{IsWellFormed}
use Rattle.ir.specs.Walk as walk
use Rattle.ir.specs.Walk.{Kept, Open, Comes}
use Rattle.code_meaning.specs.Code.{CodeState, Here, Frame, Goes, Spot, register_at, put_register}
use Rattle.pool_map.specs.Checks.{is_zero}
use Rattle.code_meaning.specs.Code.{act, word_of, with_word, takes_tick, spot_of, slot_of}
use Rattle.code_meaning.specs.Code.{base_in, index_in}
use Rattle.code_meaning.specs.Deeds.{Deed, deeds_at, deeds_on}
use Rattle.code_meaning.specs.Parameters.{KeepsParameters}
use Rattle.log_law.proofs.covered.Frames.{sure_put}
use Rattle.log_law.proofs.covered.Moments.{Agrees, Covers, Later, next_put, next_same}
use Rattle.log_law.proofs.covered.Loads.{load_covers}
use Rattle.log_law.proofs.covered.Stores.{store_covers}
use Rattle.log_law.proofs.covered.News.{new_covers, free_covers}
use Rattle.log_law.proofs.covered.Calls.{call_covers, return_covers}

module _ (ir : Ir) (well : IsWellFormed ir) (keeps : KeepsParameters ir.functions) (u : Spot)
    (a : Site) (d : CodeState → List Deed) (later : Later ir u a d)
    (f p : ℕ) (regs : List ℤ) (below : List Frame) (w : PoolMap) (t : ℕ) (k : Kept)
    (calls : List Open)
    (comes : Comes ir.functions (walk.at f p k calls)) (agrees : Agrees ir u f regs below w k calls)
  where
    bin_covers : (op : BinOp) (to left right : ℕ)
        → instruction_at ir.functions f p ≡ Some (Bin op to left right) → (o : Option ℤ)
        → Covers ir u a (deeds_on d (with_word o
        (λ v. Goes (Here f (suc p) (put_register regs to v) below w t)))) w k
    bin_covers op to left right is None = λ known first. absurd first
    bin_covers op to left right is (Some v) =
        next_put ir well keeps u a d later f p regs below w t k calls comes agrees
        (Bin op to left right) to v is refl refl
        (record { root = λ x h. h; field = λ s x h. h; freed = λ h. h })
        (sure_put ir.shapes u w regs to v (λ s x. false) k (λ s x h n l. false≢true h) agrees.0)
        agrees.1

    branch_covers : (on place : ℕ) → instruction_at ir.functions f p ≡ Some (Branch on place)
        → (b : Bool)
        → Covers ir u a (deeds_on d (if b then Goes (Here f place regs below w t)
        else Goes (Here f (suc p) regs below w t))) w k
    branch_covers on place is true =
        next_same ir well keeps u a d later f p regs below w t k calls comes agrees
        (Branch on place)
        place t is (inr refl) refl
    branch_covers on place is false =
        next_same ir well keeps u a d later f p regs below w t k calls comes agrees
        (Branch on place)
        (suc p) t is (inl refl) refl

    tick_covers : instruction_at ir.functions f p ≡ Some Tick → (n : ℕ)
        → Covers ir u a (deeds_on d (takes_tick n (λ n. Goes (Here f (suc p) regs below w n)))) w k
    tick_covers is zero = λ known first. absurd first
    tick_covers is (suc n) = next_same ir well keeps u a d later f p regs below w t k calls comes
        agrees Tick (suc p) n is refl refl

    pub act_covers : (o : Option Instruction) → instruction_at ir.functions f p ≡ o
        → Covers ir u a (deeds_at ir.shapes f p regs w o
        ++ deeds_on d (act ir o f p regs below w t)) w
        k
    act_covers None is = λ known first. absurd first
    act_covers (Some (Const to v)) is =
        next_put ir well keeps u a d later f p regs below w t k calls comes agrees (Const to v) to v
        is refl refl
        (record { root = λ x h. h; field = λ s x h. h; freed = λ h. h })
        (sure_put ir.shapes u w regs to v (λ s x. false) k (λ s x h n l. false≢true h) agrees.0)
        agrees.1
    act_covers (Some (Copy to from)) is =
        next_put ir well keeps u a d later f p regs below w t k calls comes agrees (Copy to from) to
        (register_at regs from) is refl refl
        (record { root = λ x h. h; field = λ s x h. h; freed = λ h. h })
        (sure_put ir.shapes u w regs to (register_at regs from) (k.written from) k (λ s x h n l.
        agrees.0 from s x h n l) agrees.0) agrees.1
    act_covers (Some (Bin op to left right)) is =
        bin_covers op to left right is (word_of op (register_at regs left) (register_at regs right))
    act_covers (Some (Jump place)) is =
        next_same ir well keeps u a d later f p regs below w t k calls comes agrees
        (Jump place) place t
        is refl refl
    act_covers (Some (Branch on place)) is =
        branch_covers on place is (is_zero (register_at regs on))
    act_covers (Some (Load to x)) is =
        load_covers ir well keeps u a d later f p regs below w t k calls comes agrees to x is
        (spot_of ir.shapes w x (base_in regs x) (index_in regs x)) refl
    act_covers (Some (Store x from line)) is =
        store_covers ir well keeps u a d later f p regs below w t k calls comes agrees x
        from line is
        (spot_of ir.shapes w x (base_in regs x) (index_in regs x)) refl
    act_covers (Some (New to kind log_fill line)) is =
        new_covers ir well keeps u a d later f p regs below w t k calls comes agrees to
        kind log_fill
        line is (least_free w) refl
    act_covers (Some (Free from kind line)) is =
        free_covers ir well keeps u a d later f p regs below w t k calls comes agrees from
        kind line is
        (slot_of w kind (register_at regs from)) refl
    act_covers (Some (Call to g args)) is =
        call_covers ir well keeps u a d later f p regs below w t k calls comes agrees to g args is
        (slice_get ir.functions g)
    act_covers (Some (Return from)) is =
        return_covers ir well keeps u a d later f p regs below w t k (register_at regs from)
        calls comes
        (from, is) agrees
    act_covers (Some Tick) is = tick_covers is t
    act_covers (Some (Trap kind)) is = λ known first. absurd first
    act_covers (Some (Log x)) is =
        next_same ir well keeps u a d later f p regs below w t k calls comes agrees
        (Log x) (suc p) t
        is refl refl
