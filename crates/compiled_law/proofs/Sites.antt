-- In code with its logs a store is logged exactly if the marks say so of its site.
use Rattle.std.proofs.Common.{◌≡◌, ℕ, zero, suc, Bool, true, false, List, [], ◌∷◌, Option, Some}
use Rattle.std.proofs.Common.{None, refl, sym, ap, ◌∙◌}
use Rattle.std.specs.Prelude.{slice_get, option_and_then}
use Rattle.ir.specs.declared.instruction.Target.{Target}
use Rattle.ir.specs.declared.instruction.Instruction.{Instruction}
use Rattle.ir.specs.declared.instruction.Instruction.TheVariants.{Const, Copy, Bin, Jump, Branch}
use Rattle.ir.specs.declared.instruction.Instruction.TheVariants.{Load, Store, New, Free, Call}
use Rattle.ir.specs.declared.instruction.Instruction.TheVariants.{Return, Tick, Trap, Log}
use Rattle.ir.specs.declared.function.IrFunction.{IrFunction}
use Rattle.ir.specs.declared.function.Ir.{Ir}
use Rattle.ir.specs.Places.{instruction_at}
use Rattle.clobber_pass.specs.declared.marking.MarkTable.{MarkTable}
use Rattle.clobber_pass.specs.Logged as table
use Rattle.ir.specs.Moving.{place_in, is_log}
use Rattle.instrument.specs.Insert.{logs, led, places_from, flags_from, flagged}
use Rattle.instrument.specs.Insert.{logged_program}
use Rattle.code_meaning.specs.Deeds.{site}
use Rattle.log_law.specs.inserted.Moved.{code_of_function, places_of, begins, stands, moved_site}
use Rattle.log_law.proofs.inserted.Standing.{standing, fill_stands}
use Rattle.machine_law.specs.matching.Compiled.{logs_at, is_logged_in_code}
use Rattle.compiled_law.proofs.Marked.{IsStoreAt, logged_at, fill_at, moved_logged_true}

-- the only logs are those of the marks
no_log : (table : List ℕ) (flag : Bool) (i : Instruction) → ((x : Target) → i ≡ Log x → ⊥)
    → is_log (led table flag i) ≡ false
no_log table flag (Log x) none = absurd (none x refl)
no_log table flag (Const to v) none = refl
no_log table flag (Copy to from) none = refl
no_log table flag (Bin o to a b) none = refl
no_log table flag (Jump q) none = refl
no_log table flag (Branch on q) none = refl
no_log table flag (Load to x) none = refl
no_log table flag (Store x from line) none = refl
no_log table flag (New to kind fill line) none = refl
no_log table flag (Free from kind line) none = refl
no_log table flag (Call to g args) none = refl
no_log table flag (Return from) none = refl
no_log table flag Tick none = refl
no_log table flag (Trap k) none = refl

-- an instruction that is no log stays at its place
plain_at : (i : Instruction) → ((x : Target) → i ≡ Log x → ⊥) → is_log i ≡ false
plain_at (Log x) none = absurd (none x refl)
plain_at (Const to v) none = refl
plain_at (Copy to from) none = refl
plain_at (Bin o to a b) none = refl
plain_at (Jump q) none = refl
plain_at (Branch on q) none = refl
plain_at (Load to x) none = refl
plain_at (Store x from line) none = refl
plain_at (New to kind fill line) none = refl
plain_at (Free from kind line) none = refl
plain_at (Call to g args) none = refl
plain_at (Return from) none = refl
plain_at Tick none = refl
plain_at (Trap k) none = refl

logged_after : (o : Option IrFunction) (q : ℕ) (i : Instruction)
    → option_and_then (λ (u : IrFunction). slice_get u.code q) o ≡ Some i
    → logs_at o (suc q) false ≡ is_log i
logged_after None q i e = absurd (cc)
logged_after (Some u) q i e = logged_at false u.code q i e

first_unlogged : (o : Option IrFunction) → logs_at o 0 false ≡ false
first_unlogged None = refl
first_unlogged (Some u) = refl

-- each instruction but the first has one before it
before_it : (us : List IrFunction) (f p : ℕ) (i : Instruction)
    → instruction_at us f (suc p) ≡ Some i → (j : Instruction) × (instruction_at us f p ≡ Some j)
before_it us f p i e = by_function (slice_get us f) e
  where
    in_code : (code : List Instruction) (p : ℕ) → slice_get code (suc p) ≡ Some i
        → (j : Instruction) × (slice_get code p ≡ Some j)
    in_code [] p e = absurd (cc)
    in_code (x ∷ code) zero e = (x, refl)
    in_code (x ∷ code) (suc p) e = in_code code p e

    by_function : (o : Option IrFunction)
        → option_and_then (λ (u : IrFunction). slice_get u.code (suc p)) o ≡ Some i
        → (j : Instruction) × (option_and_then (λ (u : IrFunction). slice_get u.code p) o ≡ Some j)
    by_function None e = absurd (cc)
    by_function (Some u) e = in_code u.code p e

module _ (marks : MarkTable) (ir : Ir) (bare : (f p : ℕ) (x : Target)
    → instruction_at ir.functions f p ≡ Some (Log x) → ⊥) where
  abbrev L : Ir
  L = logged_program marks ir

  unlogged : (f p : ℕ) (x : Target) (from line : ℕ)
      → instruction_at ir.functions f p ≡ Some (Store x from line)
      → table.is_logged marks (site f p false) ≡ false
      → logs_at (slice_get L.functions f) (stands marks ir.functions f p) false ≡ false
  unlogged f p x from line e off =
      let s = standing marks ir f p (Store x from line) e in
      ap (λ (q : ℕ). logs_at (slice_get L.functions f) q false)
      (s.none (ap (λ (b : Bool). logs b (Store x from line)) off)) ∙ by_place p refl
    where
      first : (flags : List Bool) (code : List Instruction)
          → place_in (places_from flags 0 0 code) 0 ≡ 0
      first flags [] = refl
      first flags (i ∷ code) = refl

      by_place : (q : ℕ) → p ≡ q → logs_at (slice_get L.functions f) (begins marks ir.functions f q)
          false ≡ false
      by_place zero is = ap (λ (n : ℕ). logs_at (slice_get L.functions f) n false)
          (first (flags_from marks f 0 (code_of_function ir.functions f))
          (code_of_function ir.functions f))
          ∙ first_unlogged (slice_get L.functions f)
      by_place (suc q) is =
          let j = before_it ir.functions f q (Store x from line)
          (ap (instruction_at ir.functions f) (sym is) ∙ e) in
          let s = standing marks ir f q j.0 j.1 in
          let bare_at : (y : Target) → j.0 ≡ Log y → ⊥ =
          λ y h. bare f q y (j.1 ∙ ap (λ (i : Instruction). Some i) h) in
          let own = plain_at j.0 bare_at in
          ap (λ (n : ℕ). logs_at (slice_get L.functions f) n false) (s.next own)
          ∙ logged_after (slice_get L.functions f) (stands marks ir.functions f q)
          (led (places_of marks ir.functions f) (flagged marks f q j.0) j.0) (s.self own)
          ∙ no_log (places_of marks ir.functions f) (flagged marks f q j.0) j.0 bare_at

  pub logged_same : (fill : Bool) (f p : ℕ) → IsStoreAt ir.functions fill f p
      → is_logged_in_code L (moved_site marks ir.functions (site f p fill)) ≡ table.is_logged marks
      (site f p fill)
  logged_same true f p fill = fill_at (slice_get L.functions f) (stands marks ir.functions f p)
      fill.0 fill.1 fill.3 (table.is_logged marks (site f p true))
      (fill_stands marks ir f p fill.0 fill.1 fill.3 fill.2 fill.4)
  logged_same false f p store = by_test (table.is_logged marks (site f p false)) refl
    where
      by_test : (b : Bool) → table.is_logged marks (site f p false) ≡ b
          → is_logged_in_code L (moved_site marks ir.functions (site f p false)) ≡ table.is_logged
          marks (site f p false)
      by_test true on = moved_logged_true marks ir f p store on ∙ sym on
      by_test false off = unlogged f p store.0 store.1 store.2 store.3 off ∙ sym off
