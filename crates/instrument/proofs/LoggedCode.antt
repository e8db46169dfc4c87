-- Code with its logs is well formed if the code is, and is short.
use Rattle.std.proofs.Common.{◌≡◌, ℕ, zero, suc, ◌+◌, ◌-◌, ◌*◌, ◌<◌, ◌≤◌, ◌^◌, Bool, true, false}
use Rattle.std.proofs.Common.{List, [], ◌∷◌, ◌++◌, length, refl, sym, ap, subst, arith}
use Rattle.std.proofs.Common.{length-append}
use Rattle.std.specs.Prelude.{slice_get, if◌then◌else◌, Result, Ok, Err, IfOk}
use Rattle.std.specs.List.{AllByRecursion, slice_index_or}
use Rattle.nvm_base.proofs.Lists.{all_append}
use Rattle.ir.specs.declared.instruction.Instruction.{Instruction}
use Rattle.ir.specs.declared.instruction.Instruction.TheVariants.{Const, Copy, Bin, Jump, Branch}
use Rattle.ir.specs.declared.instruction.Instruction.TheVariants.{Load, Store, New, Free, Call}
use Rattle.ir.specs.declared.instruction.Instruction.TheVariants.{Return, Tick, Trap, Log}
use Rattle.ir.specs.declared.function.IrFunction.{IrFunction}
use Rattle.ir.specs.declared.function.Ir.{Ir}
use Rattle.ir.specs.WellFormed.{IsInstruction, StopsRun, EndsWell, IsFunction, IsWellFormed}
use Rattle.ir.specs.WellFormed.{TakesArgs}
use Rattle.clobber_pass.specs.declared.marking.MarkTable.{MarkTable}
use Rattle.instrument.specs.Insert.{logs, own, logged_width, flag_at, places_from}
use Rattle.ir.specs.Moving.{is_log, place_in}
use Rattle.instrument.specs.Insert.{led, logged_from, flags_from, with_flags}
use Rattle.instrument.specs.Insert.{logged_function, logged_functions, logged_program}
use Rattle.ir.specs.Short.{IsShort}

-- an instruction has at most one log
logs_length : (flag : Bool) (i : Instruction) → length (logs flag i) ≤ 1
logs_length false i = omega arith
logs_length true (Store target from line) = omega arith
logs_length true (Const to value) = omega arith
logs_length true (Copy to from) = omega arith
logs_length true (Bin op to left right) = omega arith
logs_length true (Jump place) = omega arith
logs_length true (Branch on place) = omega arith
logs_length true (Load to target) = omega arith
logs_length true (New to kind log_fill line) = omega arith
logs_length true (Free from kind line) = omega arith
logs_length true (Call to function args) = omega arith
logs_length true (Return from) = omega arith
logs_length true Tick = omega arith
logs_length true (Trap kind) = omega arith
logs_length true (Log target) = omega arith

pub own_length : (table : List ℕ) (flag : Bool) (i : Instruction)
    → length (own table flag i) ≡ (if is_log i then 0 else 1)
own_length table flag i = by_kind (is_log i)
  where
    by_kind : (b : Bool) → length (if b then [] else led table flag i ∷ []) ≡ (if b then 0 else 1)
    by_kind true = refl
    by_kind false = refl

own_few : (i : Instruction) → (if is_log i then 0 else 1) ≤ 1
own_few i = by_kind (is_log i)
  where
    by_kind : (b : Bool) → (if b then 0 else 1) ≤ 1
    by_kind true = omega arith
    by_kind false = omega arith

-- one instruction, with its log, and those that follow
logged_length_more : (table : List ℕ) (flags : List Bool) (k : ℕ) (i : Instruction)
    (is : List Instruction)
    → length (logged_from table flags k (i ∷ is)) ≡ logged_width (flag_at flags k) i
    + length (logged_from table flags (suc k) is)
logged_length_more table flags k i is =
    let flag = flag_at flags k in
    let rest = logged_from table flags (suc k) is in
    omega (
      arith,
      length-append (logs flag i) (own table flag i ++ rest),
      length-append (own table flag i) rest,
      own_length table flag i,
    )

-- logs at most double the code
pub logged_length : (table : List ℕ) (flags : List Bool) (k : ℕ) (code : List Instruction)
    → length (logged_from table flags k code) ≤ 2 * length code
logged_length table flags k [] = omega arith
logged_length table flags k (i ∷ is) =
    omega (
      arith,
      logged_length_more table flags k i is,
      logs_length (flag_at flags k) i,
      own_few i,
      logged_length table flags (suc k) is,
    )

-- an instruction that ends a run is no log
end_is_own : (i : Instruction) → StopsRun i → is_log i ≡ false
end_is_own (Jump place) ends = refl
end_is_own (Return from) ends = refl
end_is_own (Trap kind) ends = refl
end_is_own (Const to value) ends = refl
end_is_own (Copy to from) ends = refl
end_is_own (Bin op to left right) ends = refl
end_is_own (Branch on place) ends = refl
end_is_own (Load to target) ends = refl
end_is_own (Store target from line) ends = refl
end_is_own (New to kind log_fill line) ends = refl
end_is_own (Free from kind line) ends = refl
end_is_own (Call to function args) ends = refl
end_is_own Tick ends = refl
end_is_own (Log target) ends = absurd ends

end_takes : (flag : Bool) (i : Instruction) → StopsRun i → 0 < logged_width flag i
end_takes flag i ends = subst (λ (b : Bool). 0 < length (logs flag i) + (if b then 0 else 1))
    (sym (end_is_own i ends)) (omega arith)

-- the last instruction takes a place, so each place of the code is mapped to a place of the code
-- with its logs
place_below : (table : List ℕ) (flags : List Bool) (k at : ℕ) (code : List Instruction) (t d : ℕ)
    → EndsWell code → t < length code
    → slice_index_or (places_from flags k at code) t d
    < at + length (logged_from table flags k code)
place_below table flags k at [] t d ends inside = absurd (omega arith)
place_below table flags k at (i ∷ []) zero d ends inside =
    omega (arith, logged_length_more table flags k i [], end_takes (flag_at flags k) i ends)
place_below table flags k at (i ∷ []) (suc t) d ends inside = absurd (omega arith)
place_below table flags k at (i ∷ j ∷ is) zero d ends inside =
    omega (
      arith,
      logged_length_more table flags k i (j ∷ is),
      place_below table flags (suc k) (at + logged_width (flag_at flags k) i) (j ∷ is) 0 d ends
          (omega arith),
    )
place_below table flags k at (i ∷ j ∷ is) (suc t) d ends inside =
    omega (
      arith,
      logged_length_more table flags k i (j ∷ is),
      place_below table flags (suc k) (at + logged_width (flag_at flags k) i) (j ∷ is) t d ends
          (omega arith),
    )

-- code in front doesn't change how code ends
ends_append : (xs ys : List Instruction) → EndsWell ys → EndsWell (xs ++ ys)
ends_append [] ys ends = ends
ends_append (x ∷ []) [] ends = absurd ends
ends_append (x ∷ []) (y ∷ ys) ends = ends
ends_append (x ∷ z ∷ xs) ys ends = ends_append (z ∷ xs) ys ends

led_ends : (table : List ℕ) (flag : Bool) (i : Instruction) → StopsRun i
    → StopsRun (led table flag i)
led_ends table flag (Jump place) ends = tt
led_ends table flag (Return from) ends = tt
led_ends table flag (Trap kind) ends = tt
led_ends table flag (Const to value) ends = absurd ends
led_ends table flag (Copy to from) ends = absurd ends
led_ends table flag (Bin op to left right) ends = absurd ends
led_ends table flag (Branch on place) ends = absurd ends
led_ends table flag (Load to target) ends = absurd ends
led_ends table flag (Store target from line) ends = absurd ends
led_ends table flag (New to kind log_fill line) ends = absurd ends
led_ends table flag (Free from kind line) ends = absurd ends
led_ends table flag (Call to function args) ends = absurd ends
led_ends table flag Tick ends = absurd ends
led_ends table flag (Log target) ends = absurd ends

logged_ends : (table : List ℕ) (flags : List Bool) (k : ℕ) (code : List Instruction) → EndsWell code
    → EndsWell (logged_from table flags k code)
logged_ends table flags k [] ends = absurd ends
logged_ends table flags k (i ∷ []) ends =
    let flag = flag_at flags k in
    let last : own table flag i ++ [] ≡ led table flag i ∷ [] =
    ap (λ (b : Bool). (if b then [] else led table flag i ∷ []) ++ []) (end_is_own i ends) in
    ends_append (logs flag i) (own table flag i ++ [])
    (subst EndsWell (sym last) (led_ends table flag i ends))
logged_ends table flags k (i ∷ j ∷ is) ends =
    let flag = flag_at flags k in
    let rest = logged_from table flags (suc k) (j ∷ is) in
    ends_append (logs flag i) (own table flag i ++ rest)
    (ends_append (own table flag i) rest (logged_ends table flags (suc k) (j ∷ is) ends))

-- functions: those of the program with their logs, which take as many arguments
module _ (program : Ir) (functions : List IrFunction) (taken : (f : ℕ) (args : List ℕ)
    → TakesArgs (slice_get program.functions f) args → TakesArgs (slice_get functions f) args) where
  abbrev logged : Ir
  logged = record program { functions = functions }

  log_fits : (r n m : ℕ) (flag : Bool) (i : Instruction) → IsInstruction program r n i
      → AllByRecursion (IsInstruction logged r m) (logs flag i)
  log_fits r n m false i is = tt
  log_fits r n m true (Store target from line) is = (is.1, tt)
  log_fits r n m true (Const to value) is = tt
  log_fits r n m true (Copy to from) is = tt
  log_fits r n m true (Bin op to left right) is = tt
  log_fits r n m true (Jump place) is = tt
  log_fits r n m true (Branch on place) is = tt
  log_fits r n m true (Load to target) is = tt
  log_fits r n m true (New to kind log_fill line) is = tt
  log_fits r n m true (Free from kind line) is = tt
  log_fits r n m true (Call to function args) is = tt
  log_fits r n m true (Return from) is = tt
  log_fits r n m true Tick is = tt
  log_fits r n m true (Trap kind) is = tt
  log_fits r n m true (Log target) is = tt

  -- table: the places, among m, to which the n places of the code are mapped
  module _ (r n m : ℕ) (table : List ℕ) (low : (t : ℕ) → t < n → place_in table t < m) where
    led_fits : (flag : Bool) (i : Instruction) → IsInstruction program r n i
        → IsInstruction logged r m (led table flag i)
    led_fits flag (Jump place) is = low place is
    led_fits flag (Branch on place) is = (is.0, low place is.1)
    led_fits flag (Call to function args) is = (is.0, is.1, taken function args is.2)
    led_fits flag (New to kind log_fill line) is = is
    led_fits flag (Const to value) is = is
    led_fits flag (Copy to from) is = is
    led_fits flag (Bin op to left right) is = is
    led_fits flag (Load to target) is = is
    led_fits flag (Store target from line) is = is
    led_fits flag (Free from kind line) is = is
    led_fits flag (Return from) is = is
    led_fits flag Tick is = tt
    led_fits flag (Trap kind) is = tt
    led_fits flag (Log target) is = is

    own_fits : (flag : Bool) (i : Instruction) (b : Bool) → IsInstruction program r n i
        → AllByRecursion (IsInstruction logged r m) (if b then [] else led table flag i ∷ [])
    own_fits flag i true is = tt
    own_fits flag i false is = (led_fits flag i is, tt)

    code_fits : (flags : List Bool) (k : ℕ) (code : List Instruction)
        → AllByRecursion (IsInstruction program r n) code
        → AllByRecursion (IsInstruction logged r m) (logged_from table flags k code)
    code_fits flags k [] is = tt
    code_fits flags k (i ∷ code) is =
        let flag = flag_at flags k in
        let rest = logged_from table flags (suc k) code in
        all_append (IsInstruction logged r m) (logs flag i) (own table flag i ++ rest)
        (log_fits r n m flag i is.0)
        (all_append (IsInstruction logged r m) (own table flag i) rest
        (own_fits flag i (is_log i) is.0) (code_fits flags (suc k) code is.1))

  flagged_formed : (flags : List Bool) (u : IrFunction) → length u.code < 2 ^ 30
      → IsFunction program u → IsFunction logged (record u { code = with_flags flags u.code })
  flagged_formed flags u short formed =
      let table : List ℕ = places_from flags 0 0 u.code in
      let low : (t : ℕ) → t < length u.code
      → place_in table t < length (logged_from table flags 0 u.code) =
      λ t inside. omega (
        arith,
        place_below table flags 0 0 u.code t (2 ^ 32 - 1) formed.2
            inside,
      ) in (
        formed.0,
        omega (arith, logged_length table flags 0 u.code),
        logged_ends table flags 0 u.code formed.2,
        code_fits u.registers (length u.code) (length (logged_from table flags 0 u.code)) table low
            flags 0 u.code formed.3,
      )

  function_formed : (marks : MarkTable) (f : ℕ) (u : IrFunction) → length u.code < 2 ^ 30
      → IsFunction program u → IsFunction logged (logged_function marks f u)
  function_formed marks f u short formed =
      flagged_formed (flags_from marks f 0 u.code) u short formed

  functions_formed : (marks : MarkTable) (f : ℕ) (us : List IrFunction)
      → AllByRecursion (λ (u : IrFunction). length u.code < 2 ^ 30) us
      → AllByRecursion (IsFunction program) us
      → AllByRecursion (IsFunction logged) (logged_functions marks f us)
  functions_formed marks f [] short formed = tt
  functions_formed marks f (u ∷ us) short formed = (
    function_formed marks f u short.0 formed.0,
    functions_formed marks (suc f) us short.1 formed.1,
  )

-- a function takes as many arguments with its logs
taken_logged : (marks : MarkTable) (k : ℕ) (us : List IrFunction) (f : ℕ) (args : List ℕ)
    → TakesArgs (slice_get us f) args → TakesArgs (slice_get (logged_functions marks k us) f) args
taken_logged marks k [] f args takes = takes
taken_logged marks k (u ∷ us) zero args takes = takes
taken_logged marks k (u ∷ us) (suc f) args takes = taken_logged marks (suc k) us f args takes

pub functions_length : (marks : MarkTable) (k : ℕ) (us : List IrFunction)
    → length (logged_functions marks k us) ≡ length us
functions_length marks k [] = refl
functions_length marks k (u ∷ us) = ap suc (functions_length marks (suc k) us)

logged_well_formed : (marks : MarkTable) (program : Ir) → IsWellFormed program → IsShort program
    → IsWellFormed (logged_program marks program)
logged_well_formed marks program formed short = (
  omega (arith, functions_length marks 0 program.functions, formed.0),
  functions_formed program (logged_functions marks 0 program.functions)
      (taken_logged marks 0 program.functions) marks 0 program.functions short formed.1,
)

pub answer_well_formed : {E : Type 0} (marks : MarkTable) (program : Ir) (answer : Result Ir E)
    → IsWellFormed program → IsShort program → IfOk answer (λ r. r ≡ logged_program marks program)
    → IfOk answer IsWellFormed
answer_well_formed marks program (Ok r) formed short is =
    subst IsWellFormed (sym is) (logged_well_formed marks program formed short)
answer_well_formed marks program (Err e) formed short is = is
