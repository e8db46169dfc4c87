-- An instruction that stays in its function goes on to the next place, with the same callers.
use Rattle.std.proofs.Common.{◌≡◌, ℕ, zero, suc, Bool, List, length, Option, None, Some, Result, Ok}
use Rattle.std.proofs.Common.{Err, ℤ, refl}
use Rattle.std.proofs.lemmas.List.{length-map}
use Rattle.pool_map.specs.declared.shapes.Shapes.{Shapes}
use Rattle.pool_map.specs.declared.trap.TrapKind.{TrapKind}
use Rattle.pool_map.specs.declared.trap.TrapKind.TheVariants as kinds
use Rattle.pool_map.specs.Trap.{trap_number, trap_of}
use Rattle.pool_map.specs.PoolMap.{PoolMap}
use Rattle.pool_layout.specs.declared.limits.Sizes.{Sizes}
use Rattle.ir.specs.declared.instruction.Instruction.{Instruction}
use Rattle.ir.specs.declared.instruction.Instruction.TheVariants as ir
use Rattle.ir.specs.declared.function.Ir.{Ir}
use Rattle.code_meaning.specs.Code.{Here, Move, Goes, Ends, Frame, register_at, word_of, with_word}
use Rattle.code_meaning.specs.Code.{with_ok, takes_tick, spot_of, base_in, index_in, free_in, act}
use Rattle.pm_machine.specs.Machine.{trap_at}
use Rattle.pm_alloc.specs.Placing.{placed}
use Rattle.codegen.specs.Emit.{local_code, instruction_code}
use Rattle.machine_law.specs.emitted.Standing.{Stays}

abbrev pub LeadsOn : (f p : ℕ) → List Frame → Move → Type 0
LeadsOn f p callers (Goes (Here g q regs cs w t)) = (g ≡ f) × (q ≡ suc p) × (cs ≡ callers)
LeadsOn f p callers (Ends e) = Unit {0}

module _ (f p : ℕ) (callers : List Frame) where
  on_word : (o : Option ℤ) (go : ℤ → Move) → ((v : ℤ) → LeadsOn f p callers (go v))
      → LeadsOn f p callers (with_word o go)
  on_word None go h = tt
  on_word (Some v) go h = h v

  on_ok : {A : Type 0} (r : Result A TrapKind) (go : A → Move)
      → ((a : A) → LeadsOn f p callers (go a)) → LeadsOn f p callers (with_ok r go)
  on_ok (Err k) go h = tt
  on_ok (Ok a) go h = h a

  on_tick : (t : ℕ) (go : ℕ → Move) → ((n : ℕ) → LeadsOn f p callers (go n))
      → LeadsOn f p callers (takes_tick t go)
  on_tick zero go h = tt
  on_tick (suc t) go h = h t

  pub leads_on : (program : Ir) (i : Instruction) (regs : List ℤ) (w : PoolMap) (t : ℕ) → Stays i
      → LeadsOn f p callers (act program (Some i) f p regs callers w t)
  leads_on program (ir.Jump q) regs w t stays = absurd stays
  leads_on program (ir.Branch on q) regs w t stays = absurd stays
  leads_on program (ir.Call to g args) regs w t stays = absurd stays
  leads_on program (ir.Return from) regs w t stays = absurd stays
  leads_on program (ir.Const to v) regs w t stays = (refl, refl, refl)
  leads_on program (ir.Copy to from) regs w t stays = (refl, refl, refl)
  leads_on program (ir.Bin o to a b) regs w t stays =
      on_word (word_of o (register_at regs a) (register_at regs b)) _ (λ v. (refl, refl, refl))
  leads_on program (ir.Load to x) regs w t stays =
      on_ok (spot_of program.shapes w x (base_in regs x) (index_in regs x)) _
      (λ s. (refl, refl, refl))
  leads_on program (ir.Store x from line) regs w t stays =
      on_ok (spot_of program.shapes w x (base_in regs x) (index_in regs x)) _
      (λ s. (refl, refl, refl))
  leads_on program (ir.New to kind fill line) regs w t stays = (refl, refl, refl)
  leads_on program (ir.Free from kind line) regs w t stays =
      on_ok (free_in w kind (register_at regs from)) _ (λ v. (refl, refl, refl))
  leads_on program ir.Tick regs w t stays = on_tick t _ (λ n. (refl, refl, refl))
  leads_on program (ir.Trap k) regs w t stays = tt
  leads_on program (ir.Log x) regs w t stays = (refl, refl, refl)

pub piece_length : (s : Sizes) (h : Shapes) (tx : Bool) (r : ℕ) (table : List ℕ) (p : ℕ) (b : Bool)
    (i : Instruction) → Stays i → length (instruction_code s h tx r table p b i)
    ≡ length (local_code s h b i)
piece_length s h tx r table p b (ir.Jump q) stays = absurd stays
piece_length s h tx r table p b (ir.Branch on q) stays = absurd stays
piece_length s h tx r table p b (ir.Call to g args) stays = absurd stays
piece_length s h tx r table p b (ir.Return from) stays = absurd stays
piece_length s h tx r table p b i stays = length-map (local_code s h b i) (placed r p)

pub trap_known : (k : TrapKind) → trap_at (trap_of (trap_number k)) ≡ k
trap_known kinds.Null = refl
trap_known kinds.Stale = refl
trap_known kinds.Index = refl
trap_known kinds.Divide = refl
trap_known kinds.Steps = refl
trap_known kinds.Abort = refl
trap_known kinds.LogFull = refl
trap_known kinds.Depth = refl
