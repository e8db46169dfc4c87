-- Code that only looks gets no logs.
use Rattle.std.proofs.Common.{◌≡◌, ℕ, zero, suc, Bool, true, false, List, [], ◌∷◌, ◌++◌, slice_get}
use Rattle.std.proofs.Common.{Some, refl, subst}
use Rattle.std.proofs.lemmas.Option.{none-some, same_Some}
use Rattle.nvm_base.proofs.Lists.{all_append}
use Rattle.ir.specs.declared.instruction.Instruction.{Instruction}
use Rattle.ir.specs.declared.instruction.Instruction.TheVariants.{Const, Copy, Bin, Jump, Branch}
use Rattle.ir.specs.declared.instruction.Instruction.TheVariants.{Load, Store, New, Free, Call}
use Rattle.ir.specs.declared.instruction.Instruction.TheVariants.{Return, Tick, Trap, Log}
use Rattle.ir.specs.declared.function.IrFunction.{IrFunction}
use Rattle.ir.specs.declared.function.Ir.{Ir}
use Rattle.clobber_pass.specs.declared.marking.MarkTable.{MarkTable}
use Rattle.instrument.specs.Insert.{logs, flag_at, own, logged_from, logged_code, logged_function}
use Rattle.instrument.specs.Insert.{logged_functions, logged_program, places_from, flags_from}
use Rattle.look_law.specs.Code.{InstructionLooks, CodeLooks, FunctionsLook}

module _ (looking : ℕ → Bool) where
  logs_look : (flag : Bool) (i : Instruction) → InstructionLooks looking i
      → CodeLooks looking (logs flag i)
  logs_look false i h = tt
  logs_look true (Store target from line) h = absurd (cc)
  logs_look true (Const to value) h = tt
  logs_look true (Copy to from) h = tt
  logs_look true (Bin op to left right) h = tt
  logs_look true (Jump place) h = tt
  logs_look true (Branch on place) h = tt
  logs_look true (Load to target) h = tt
  logs_look true (New to kind log_fill line) h = tt
  logs_look true (Free from kind line) h = tt
  logs_look true (Call to function args) h = tt
  logs_look true (Return from) h = tt
  logs_look true Tick h = tt
  logs_look true (Trap kind) h = tt
  logs_look true (Log target) h = tt

  own_looks : (places : List ℕ) (flag : Bool) (i : Instruction)
      → InstructionLooks looking i
      → CodeLooks looking (own places flag i)
  own_looks places flag (Store target from line) h = absurd (cc)
  own_looks places flag (Const to value) h = (refl, tt)
  own_looks places flag (Copy to from) h = (refl, tt)
  own_looks places flag (Bin op to left right) h = (refl, tt)
  own_looks places flag (Jump place) h = (refl, tt)
  own_looks places flag (Branch on place) h = (refl, tt)
  own_looks places flag (Load to target) h = (refl, tt)
  own_looks places flag (New to kind log_fill line) h = absurd (cc)
  own_looks places flag (Free from kind line) h = absurd (cc)
  own_looks places flag (Call to function args) h = (h, tt)
  own_looks places flag (Return from) h = (refl, tt)
  own_looks places flag Tick h = (refl, tt)
  own_looks places flag (Trap kind) h = (refl, tt)
  own_looks places flag (Log target) h = tt

  logged_looks : (places : List ℕ) (flags : List Bool) (k : ℕ) (code : List Instruction)
      → CodeLooks looking code → CodeLooks looking (logged_from places flags k code)
  logged_looks places flags k [] all = tt
  logged_looks places flags k (i ∷ code) all =
      all_append (InstructionLooks looking) (logs (flag_at flags k) i)
      (own places (flag_at flags k) i ++ logged_from places flags (suc k) code)
      (logs_look (flag_at flags k) i all.0)
      (all_append (InstructionLooks looking) (own places (flag_at flags k) i)
      (logged_from places flags (suc k) code)
      (own_looks places (flag_at flags k) i all.0)
      (logged_looks places flags (suc k) code all.1))

  code_looks : (marks : MarkTable) (m : ℕ) (code : List Instruction) → CodeLooks looking code
      → CodeLooks looking (logged_code marks m code)
  code_looks marks m code all =
      logged_looks (places_from (flags_from marks m 0 code) 0 0 code) (flags_from marks m 0 code) 0
      code all

-- a function with its logs is one without, whose logs are those of some number
found : (marks : MarkTable) (m : ℕ) (us : List IrFunction) (f : ℕ) (v : IrFunction)
    → slice_get (logged_functions marks m us) f ≡ Some v
    → (u : IrFunction) × (n : ℕ) × (slice_get us f ≡ Some u) × (logged_function marks n u ≡ v)
found marks m [] f v e = absurd (none-some v e)
found marks m (u ∷ us) zero v e = (u, m, refl, same_Some (logged_function marks m u) v e)
found marks m (u ∷ us) (suc f) v e = found marks (suc m) us f v e

pub inserts : (marks : MarkTable) (program : Ir) (looking : ℕ → Bool)
    → FunctionsLook program.functions looking
    → FunctionsLook (logged_program marks program).functions looking
inserts marks program looking all f v is at =
    let there = found marks 0 program.functions f v at in
    subst (λ (u : IrFunction). CodeLooks looking u.code) there.3
    (code_looks looking marks there.1 there.0.code (all f there.0 is there.2))
