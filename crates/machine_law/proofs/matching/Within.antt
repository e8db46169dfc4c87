-- Well formed code never reaches a place without an instruction, nor a call of no function.
use Rattle.std.proofs.Common.{◌≡◌, ◌⊎◌, inl, inr, ℕ, zero, suc, ◌<◌, Bool, true, false, List, []}
use Rattle.std.proofs.Common.{◌∷◌, length, map, slice_get, Option, None, Some, Result, Ok, Err, ℤ}
use Rattle.std.proofs.Common.{refl, sym, ap, subst, arith}
use Rattle.std.specs.Prelude.{if◌then◌else◌, nat_lt, option_and_then}
use Rattle.nvm_base.proofs.Lists.{all_at}
use Rattle.pool_map.specs.declared.trap.TrapKind.{TrapKind}
use Rattle.pool_map.specs.declared.trap.TrapKind.TheVariants as kinds
use Rattle.pool_map.specs.PoolMap.{PoolMap}
use Rattle.ir.specs.declared.instruction.Instruction.{Instruction}
use Rattle.ir.specs.declared.instruction.Instruction.TheVariants as ir
use Rattle.ir.specs.declared.function.IrFunction.{IrFunction}
use Rattle.ir.specs.declared.function.Ir.{Ir}
use Rattle.ir.specs.Places.{instruction_at}
use Rattle.ir.specs.WellFormed.{IsWellFormed, IsFunction, IsInstruction, StopsRun, EndsWell}
use Rattle.ir.specs.WellFormed.{TakesArgs}
use Rattle.code_meaning.specs.Code.{CodeState, Here, Move, Goes, Ends, Frame, frame, CodeEnd, Ended}
use Rattle.code_meaning.specs.Code.{Trapped, Unfinished, Stuck, register_at, word_of, with_word}
use Rattle.code_meaning.specs.Code.{with_ok, takes_tick, spot_of, base_in, index_in, free_in}
use Rattle.pool_map.specs.Checks.{is_zero}
use Rattle.code_meaning.specs.Code.{gives, opens, open_limit, act, instruction_step, go_on}
use Rattle.code_meaning.specs.Code.{exec}

abbrev pub IsNotStuck : CodeEnd → Type 0
IsNotStuck (Ended w v t) = Unit {0}
IsNotStuck (Trapped k) = Unit {0}
IsNotStuck Unfinished = Unit {0}
IsNotStuck Stuck = ⊥

abbrev pub IsPlace : List IrFunction → (f p : ℕ) → Type 0
IsPlace us f p = (u : IrFunction) × (slice_get us f ≡ Some u) × (p < length u.code)

abbrev pub ArePlaces : List IrFunction → List Frame → Type 0
ArePlaces us [] = Unit {0}
ArePlaces us (frame f p regs to ∷ cs) = IsPlace us f p × ArePlaces us cs

abbrev pub IsWithin : List IrFunction → CodeState → Type 0
IsWithin us (Here f p regs callers w t) = IsPlace us f p × ArePlaces us callers

abbrev StaysWithin : List IrFunction → Move → Type 0
StaysWithin us (Goes c) = IsWithin us c
StaysWithin us (Ends e) = IsNotStuck e

stands_there : (code : List Instruction) (p : ℕ) → p < length code → slice_get code p ≡ None → ⊥
stands_there [] p low e = absurd (omega arith)
stands_there (i ∷ code) zero low e = absurd (cc)
stands_there (i ∷ code) (suc p) low e = stands_there code p (omega arith) e

-- after an instruction that isn't an end comes another
goes_further : (code : List Instruction) (p : ℕ) (i : Instruction) → EndsWell code
    → slice_get code p ≡ Some i → StopsRun i ⊎ (suc p < length code)
goes_further [] p i well e = absurd (cc)
goes_further (j ∷ []) zero i well e = let same : j ≡ i = cc in inl (subst StopsRun same well)
goes_further (j ∷ []) (suc p) i well e = absurd (cc)
goes_further (j ∷ k ∷ code) zero i well e = inr (omega arith)
goes_further (j ∷ k ∷ code) (suc p) i well e =
    elim (goes_further (k ∷ code) p i well e) [
      | inl end ↦ inl end
      | inr low ↦
          inr (omega (arith, low))
    ]

begins_well : (code : List Instruction) → EndsWell code → 0 < length code
begins_well [] well = absurd well
begins_well (i ∷ code) well = omega arith

module _ (program : Ir) (well : IsWellFormed program) where
  function_well : (f : ℕ) (u : IrFunction) → slice_get program.functions f ≡ Some u
      → IsFunction program u
  function_well f u found = all_at (IsFunction program) program.functions f u well.1 found

  pub entry_within : (f : ℕ) (u : IrFunction) → slice_get program.functions f ≡ Some u
      → IsPlace program.functions f 0
  entry_within f u found = (u, found, begins_well u.code (function_well f u found).2)

  module _ (f p : ℕ) (regs : List ℤ) (callers : List Frame) (w : PoolMap) (t : ℕ)
      (below : ArePlaces program.functions callers) (u : IrFunction)
      (found : slice_get program.functions f ≡ Some u) where
    abbrev Stays : Move → Type 0
    Stays mv = StaysWithin program.functions mv

    next_within : (i : Instruction) → slice_get u.code p ≡ Some i → (StopsRun i → ⊥)
        → IsPlace program.functions f (suc p)
    next_within i e more = elim (goes_further u.code p i (function_well f u found).2 e) [
      | inl end ↦
          absurd (more end)
      | inr low ↦ (u, found, low)
    ]

    well_here : (i : Instruction) → slice_get u.code p ≡ Some i
        → IsInstruction program u.registers (length u.code) i
    well_here i e = all_at (IsInstruction program u.registers (length u.code)) u.code p i
        (function_well f u found).3 e

    on_word : (o : Option ℤ) (go : ℤ → Move) → ((v : ℤ) → Stays (go v)) → Stays (with_word o go)
    on_word None go h = tt
    on_word (Some v) go h = h v

    on_ok : {A : Type 0} (r : Result A TrapKind) (go : A → Move) → ((a : A) → Stays (go a))
        → Stays (with_ok r go)
    on_ok (Err k) go h = tt
    on_ok (Ok a) go h = h a

    on_tick : (n : ℕ) (go : ℕ → Move) → ((n : ℕ) → Stays (go n)) → Stays (takes_tick n go)
    on_tick zero go h = tt
    on_tick (suc n) go h = h n

    on_branch : (b : Bool) (q : ℕ) → IsPlace program.functions f q
        → IsPlace program.functions f (suc p)
        → Stays (if b then Goes (Here f q regs callers w t)
        else Goes (Here f (suc p) regs callers w t))
    on_branch true q there next = (there, below)
    on_branch false q there next = (next, below)

    on_call : (o : Option IrFunction) (g : ℕ) (args : List ℕ) (vs : List ℤ) (cs : List Frame)
        → slice_get program.functions g ≡ o → TakesArgs o args → ArePlaces program.functions cs
        → Stays (opens o g vs cs w t)
    on_call None g args vs cs is takes places = absurd takes
    on_call (Some v) g args vs cs is takes places = by_depth (nat_lt (length cs) open_limit)
      where
        by_depth : (b : Bool) → Stays (if b then Goes (Here g 0 vs cs w t)
            else Ends (Trapped kinds.Depth))
        by_depth true = (entry_within g v is, places)
        by_depth false = tt

    on_return : (cs : List Frame) (v : ℤ) → ArePlaces program.functions cs → Stays (gives cs v w t)
    on_return [] v places = tt
    on_return (frame g q rs to ∷ cs) v places = places

    act_within : (o : Option Instruction) → slice_get u.code p ≡ o → p < length u.code
        → Stays (act program o f p regs callers w t)
    act_within None e low = absurd (stands_there u.code p low e)
    act_within (Some (ir.Jump q)) e low = ((u, found, well_here (ir.Jump q) e), below)
    act_within (Some (ir.Branch on q)) e low =
        on_branch (is_zero (register_at regs on)) q (u, found, (well_here (ir.Branch on q) e).1)
        (next_within (ir.Branch on q) e (λ end. end))
    act_within (Some (ir.Call to g args)) e low =
        on_call (slice_get program.functions g) g args (map (register_at regs) args)
        (frame f (suc p) regs to ∷ callers) refl (well_here (ir.Call to g args) e).2
        (next_within (ir.Call to g args) e (λ end. end), below)
    act_within (Some (ir.Return from)) e low = on_return callers (register_at regs from) below
    act_within (Some (ir.Const to v)) e low = (next_within (ir.Const to v) e (λ end. end), below)
    act_within (Some (ir.Copy to from)) e low =
        (next_within (ir.Copy to from) e (λ end. end), below)
    act_within (Some (ir.Bin o to a b)) e low =
        on_word (word_of o (register_at regs a) (register_at regs b)) _
        (λ v. (next_within (ir.Bin o to a b) e (λ end. end), below))
    act_within (Some (ir.Load to x)) e low =
        on_ok (spot_of program.shapes w x (base_in regs x) (index_in regs x)) _
        (λ s. (next_within (ir.Load to x) e (λ end. end), below))
    act_within (Some (ir.Store x from line)) e low =
        on_ok (spot_of program.shapes w x (base_in regs x) (index_in regs x)) _
        (λ s. (next_within (ir.Store x from line) e (λ end. end), below))
    act_within (Some (ir.New to kind fill line)) e low =
        (next_within (ir.New to kind fill line) e (λ end. end), below)
    act_within (Some (ir.Free from kind line)) e low =
        on_ok (free_in w kind (register_at regs from)) _
        (λ v. (next_within (ir.Free from kind line) e (λ end. end), below))
    act_within (Some ir.Tick) e low = on_tick t _ (λ n. (next_within ir.Tick e (λ end. end), below))
    act_within (Some (ir.Trap k)) e low = tt
    act_within (Some (ir.Log x)) e low = (next_within (ir.Log x) e (λ end. end), below)

  step_within : (c : CodeState) → IsWithin program.functions c
      → StaysWithin program.functions (instruction_step program c)
  step_within (Here f p regs callers w t) h =
      let u : IrFunction = h.0.0 in
      let found : slice_get program.functions f ≡ Some u = h.0.1 in
      let there : instruction_at program.functions f p ≡ slice_get u.code p =
      ap (λ (o : Option IrFunction). option_and_then (λ (v : IrFunction). slice_get v.code p) o)
      found in
      subst (λ (o : Option Instruction).
      StaysWithin program.functions (act program o f p regs callers w t)) (sym there)
      (act_within f p regs callers w t h.1 u found (slice_get u.code p) refl h.0.2)

  run_on : (k : ℕ) (mv : Move) → StaysWithin program.functions mv
      → ((c : CodeState) → IsWithin program.functions c → IsNotStuck (exec program k c))
      → IsNotStuck (go_on (exec program k) mv)
  run_on k (Goes c) h rest = rest c h
  run_on k (Ends e) h rest = h

  pub never_stuck : (k : ℕ) (c : CodeState) → IsWithin program.functions c
      → IsNotStuck (exec program k c)
  never_stuck zero c h = tt
  never_stuck (suc k) c h = run_on k (instruction_step program c) (step_within c h)
      (λ d g. never_stuck k d g)
