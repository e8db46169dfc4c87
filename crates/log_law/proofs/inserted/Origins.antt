-- The origins of the instructions of code with its logs.
use Rattle.std.proofs.Common.{◌≡◌, ℕ, zero, suc, ◌+◌, Bool, true, false, List, [], ◌∷◌, ◌++◌}
use Rattle.std.proofs.Common.{Option, Some, None, refl, sym, ap, ◌∙◌, subst, inl, inr, ⊎_elim}
use Rattle.std.proofs.Common.{length, arith}
use Rattle.std.specs.Option.{option_map_or}
use mathlib.Core.Logic.{◌⊎◌}
use Rattle.std.specs.Prelude.{if◌then◌else◌, slice_get, option_and_then, option_map}
use Rattle.std.proofs.lemmas.Option.{none-some}
use Rattle.ir.specs.declared.instruction.Target.{Target}
use Rattle.ir.specs.declared.instruction.Instruction.{Instruction}
use Rattle.ir.specs.declared.instruction.Instruction.TheVariants.{Const, Copy, Bin, Jump, Branch}
use Rattle.ir.specs.declared.instruction.Instruction.TheVariants.{Load, Store, New, Free, Call}
use Rattle.ir.specs.declared.instruction.Instruction.TheVariants.{Return, Tick, Trap, Log}
use Rattle.ir.specs.declared.function.IrFunction.{IrFunction}
use Rattle.ir.specs.declared.function.Ir.{Ir}
use Rattle.clobber_pass.specs.declared.marking.MarkTable.{MarkTable}
use Rattle.ir.specs.Places.{instruction_at}
use Rattle.clobber_pass.specs.Logged.{is_logged}
use Rattle.code_meaning.specs.Deeds.{site}
use Rattle.instrument.specs.Insert.{logs, own, logged_width, flag_at, places_from, led, logged_from}
use Rattle.ir.specs.Moving.{is_log, place_in}
use Rattle.instrument.specs.Insert.{flagged, flags_from, logged_function, logged_program}
use Rattle.log_law.specs.inserted.Moved.{code_of_function, places_of, begins, logs_before, stands}
use Rattle.log_law.specs.inserted.Law.{OriginLaw}
use Rattle.log_law.proofs.inserted.Standing.{function_at, code_is, flag_is}
use Rattle.log_law.proofs.inserted.Follows.{one_log}

-- the place of an instruction of the code, with its log
abbrev new_place : List Bool → (k at : ℕ) → List Instruction → ℕ → ℕ
new_place flags k at code p = place_in (places_from flags k at code) p

-- the instruction j at this place, which `after` follows, is a log of a store that has its flag,
-- and stands right before that store; or it is another instruction of the code at its new place
abbrev IsFrom : List ℕ → List Bool → (k at : ℕ) → List Instruction → ℕ → Instruction
    → Option Instruction → Type 0
IsFrom table flags k at code place j after =
    ((p : ℕ) × (x : Target) × (from : ℕ) × (line : ℕ) × (j ≡ Log x)
    × (slice_get code p ≡ Some (Store x from line)) × (flag_at flags (k + p) ≡ true)
    × (place ≡ new_place flags k at code p) × (after ≡ Some (Store x from line)))
    ⊎ ((p : ℕ) × (i : Instruction) × (flag : Bool) × (flag_at flags (k + p) ≡ flag)
    × (slice_get code p ≡ Some i) × (is_log i ≡ false)
    × (place ≡ new_place flags k at code p + length (logs flag i)) × (j ≡ led table flag i))

-- the same with an instruction in front
later : (table : List ℕ) (flags : List Bool) (k at : ℕ) (i : Instruction) (code : List Instruction)
    (place : ℕ) (j : Instruction) (after : Option Instruction)
    → IsFrom table flags (suc k) (at + logged_width (flag_at flags k) i) code place j after
    → IsFrom table flags k at (i ∷ code) place j after
later table flags k at i code place j after (inl (p, x, from, line, is, store, flag, here, next)) =
    let moved : suc k + p ≡ k + suc p = omega arith in
    inl (suc p, x, from, line, is, store, ap (flag_at flags) (sym moved) ∙ flag, here, next)
later table flags k at i code place j after (inr (p, h, flag, marked, is, no_log, here, same)) =
    let moved : suc k + p ≡ k + suc p = omega arith in
    inr (suc p, h, flag, ap (flag_at flags) (sym moved) ∙ marked, is, no_log, here, same)

-- a log belongs to a store with its flag
log_store : (flag : Bool) (i y : Instruction) → logs flag i ≡ y ∷ [] → (x : Target) × (from : ℕ)
    × (line : ℕ) × (i ≡ Store x from line) × (y ≡ Log x) × (flag ≡ true)
log_store false i y e = absurd (cc)
log_store true (Store x from line) y e = (x, from, line, refl, cc, refl)
log_store true (Const to value) y e = absurd (cc)
log_store true (Copy to from) y e = absurd (cc)
log_store true (Bin op to left right) y e = absurd (cc)
log_store true (Jump place) y e = absurd (cc)
log_store true (Branch on place) y e = absurd (cc)
log_store true (Load to target) y e = absurd (cc)
log_store true (New to kind log_fill line) y e = absurd (cc)
log_store true (Free from kind line) y e = absurd (cc)
log_store true (Call to function args) y e = absurd (cc)
log_store true (Return from) y e = absurd (cc)
log_store true Tick y e = absurd (cc)
log_store true (Trap kind) y e = absurd (cc)
log_store true (Log target) y e = absurd (cc)

from_more : (table : List ℕ) (flags : List Bool) (k at : ℕ) (i : Instruction)
    (code rest : List Instruction) (place : ℕ) (j : Instruction)
    → ((n : ℕ) → place ≡ at + logged_width (flag_at flags k) i + n → slice_get rest n ≡ Some j
    → IsFrom table flags (suc k) (at + logged_width (flag_at flags k) i) code place j
    (slice_get rest (suc n))) → (q : ℕ) → place ≡ at + q
    → slice_get (logs (flag_at flags k) i ++ (own table (flag_at flags k) i ++ rest)) q ≡ Some j
    → IsFrom table flags k at (i ∷ code) place j
    (slice_get (logs (flag_at flags k) i ++ (own table (flag_at flags k) i ++ rest)) (suc q))
from_more table flags k at i code rest place j inside q is e =
    ⊎_elim without with_log (one_log flag i)
  where
    flag : Bool
    flag = flag_at flags k

    width : (b : Bool) → is_log i ≡ b
        → logged_width flag i ≡ length (logs flag i) + (if b then 0 else 1)
    width b log = ap (λ (c : Bool). length (logs flag i) + (if c then 0 else 1)) log

    here : k + 0 ≡ k
    here = omega arith

    owned : (b : Bool) → is_log i ≡ b → (n : ℕ) → place ≡ at + length (logs flag i) + n
        → slice_get ((if b then [] else led table flag i ∷ []) ++ rest) n ≡ Some j
        → IsFrom table flags k at (i ∷ code) place j
        (slice_get ((if b then [] else led table flag i ∷ []) ++ rest) (suc n))
    owned true log n near there =
        later table flags k at i code place j (slice_get rest (suc n))
        (inside n (omega (arith, near, width true log)) there)
    owned false no_log zero near there = let same : led table flag i ≡ j = cc in
        inr (
          0,
          i,
          flag,
          ap (flag_at flags) here,
          refl,
          no_log,
          omega (arith, near),
          sym same,
        )
    owned false no_log (suc n) near there =
        later table flags k at i code place j (slice_get rest (suc n))
        (inside n (omega (arith, near, width false no_log)) there)

    by_kind : (n : ℕ) → place ≡ at + length (logs flag i) + n
        → slice_get (own table flag i ++ rest) n ≡ Some j
        → IsFrom table flags k at (i ∷ code) place j
        (slice_get (own table flag i ++ rest) (suc n))
    by_kind n near there = owned (is_log i) refl n near there

    without : logs flag i ≡ [] → IsFrom table flags k at (i ∷ code) place j
        (slice_get (logs flag i ++ (own table flag i ++ rest)) (suc q))
    without none =
        let none_long : length (logs flag i) ≡ 0 =
        ap (λ (ls : List Instruction). length ls) none in
        subst (λ (ls : List Instruction). IsFrom table flags k at (i ∷ code) place j
        (slice_get (ls ++ (own table flag i ++ rest)) (suc q)))
        (sym none)
        (by_kind q (omega (arith, is, none_long)) (subst (λ (ls : List Instruction).
        slice_get (ls ++ (own table flag i ++ rest)) q ≡ Some j) none e))

    with_log : (y : Instruction) × (logs flag i ≡ y ∷ [])
        → IsFrom table flags k at (i ∷ code) place j
        (slice_get (logs flag i ++ (own table flag i ++ rest)) (suc q))
    with_log (y, one) =
        subst (λ (ls : List Instruction). IsFrom table flags k at (i ∷ code) place j
        (slice_get (ls ++ (own table flag i ++ rest)) (suc q)))
        (sym one)
        (first q is (subst (λ (ls : List Instruction).
        slice_get (ls ++ (own table flag i ++ rest)) q ≡ Some j) one e))
      where
        one_long : length (logs flag i) ≡ 1
        one_long = ap (λ (ls : List Instruction). length ls) one

        first : (n : ℕ) → place ≡ at + n → slice_get (y ∷ (own table flag i ++ rest)) n ≡ Some j
            → IsFrom table flags k at (i ∷ code) place j
            (slice_get (y ∷ (own table flag i ++ rest)) (suc n))
        first zero near there =
            let s = log_store flag i y one in
            let same : y ≡ j = cc in
            inl (
              0,
              s.0,
              s.1,
              s.2,
              sym same ∙ s.4,
              ap (λ (h : Instruction). Some h) s.3,
              ap (flag_at flags) here ∙ s.5,
              omega (arith, near),
              ap (λ (h : Instruction). slice_get (own table flag h ++ rest) 0) s.3,
            )
        first (suc n) near there = by_kind n (omega (arith, near, one_long)) there

from_code : (table : List ℕ) (flags : List Bool) (k at : ℕ) (code : List Instruction)
    (q place : ℕ) (j : Instruction) → place ≡ at + q
    → slice_get (logged_from table flags k code) q ≡ Some j
    → IsFrom table flags k at code place j (slice_get (logged_from table flags k code) (suc q))
from_code table flags k at [] q place j is e = absurd (cc)
from_code table flags k at (i ∷ code) q place j is e =
    from_more table flags k at i code (logged_from table flags (suc k) code) place j
    (λ n here there.
    from_code table flags (suc k) (at + logged_width (flag_at flags k) i) code n place j here there)
    q is e

-- the origin of the instruction j at place q of function f
abbrev ComesFrom : MarkTable → Ir → ℕ → ℕ → Instruction → Type 0
ComesFrom marks ir f q j =
    ((p : ℕ) × (x : Target) × (from : ℕ) × (line : ℕ) × (j ≡ Log x)
    × (instruction_at ir.functions f p ≡ Some (Store x from line))
    × (is_logged marks (site f p false) ≡ true) × (q ≡ begins marks ir.functions f p)
    × (instruction_at (logged_program marks ir).functions f (suc q) ≡ Some (Store x from line)))
    ⊎ ((p : ℕ) × (i : Instruction) × (instruction_at ir.functions f p ≡ Some i)
    × (is_log i ≡ false) × (q ≡ stands marks ir.functions f p)
    × (j ≡ led (places_of marks ir.functions f) (flagged marks f p i) i))

pub origin : OriginLaw
origin marks ir f q j e = by_function (slice_get ir.functions f) refl
  where
    by_function : (o : Option IrFunction) → slice_get ir.functions f ≡ o → ComesFrom marks ir f q j
    by_function None found =
        absurd (none-some j (sym (ap (option_and_then (λ (v : IrFunction). slice_get v.code q))
        (function_at marks 0 ir.functions f ∙ ap (option_map (logged_function marks (0 + f)))
        found)) ∙ e))
    by_function (Some u) found = ⊎_elim log other
        (from_code table flags 0 0 u.code q q j zero_q (sym (code_is marks ir f u found q) ∙ e))
      where
        flags : List Bool
        flags = flags_from marks f 0 u.code

        table : List ℕ
        table = places_from flags 0 0 u.code

        zero_q : q ≡ 0 + q
        zero_q = omega arith

        zero_add : (p : ℕ) → 0 + p ≡ p
        zero_add p = omega arith

        code : code_of_function ir.functions f ≡ u.code
        code = ap (λ (o : Option IrFunction). option_map_or (λ (v : IrFunction). v.code) o []) found

        -- the places that the law names
        same_table : table ≡ places_of marks ir.functions f
        same_table = ap (λ (is : List Instruction). places_from (flags_from marks f 0 is) 0 0 is)
            (sym code)

        begins_at : (p : ℕ) → new_place flags 0 0 u.code p ≡ begins marks ir.functions f p
        begins_at p = ap (λ (places : List ℕ). place_in places p) same_table

        there : (p : ℕ) → instruction_at ir.functions f p ≡ slice_get u.code p
        there p = ap (option_and_then (λ (v : IrFunction). slice_get v.code p)) found

        -- the flag of an instruction
        marked : (p : ℕ) (i : Instruction) → slice_get u.code p ≡ Some i
            → flag_at flags (0 + p) ≡ flagged marks f p i
        marked p i is =
            ap (flag_at flags) (zero_add p) ∙ flag_is marks f 0 u.code p i is
            ∙ ap (λ (n : ℕ). flagged marks f n i) (zero_add p)

        log : (p : ℕ) × (x : Target) × (from : ℕ) × (line : ℕ) × (j ≡ Log x)
            × (slice_get u.code p ≡ Some (Store x from line)) × (flag_at flags (0 + p) ≡ true)
            × (q ≡ new_place flags 0 0 u.code p)
            × (slice_get (logged_from table flags 0 u.code) (suc q) ≡ Some (Store x from line))
            → ComesFrom marks ir f q j
        log (p, x, from, line, is, store, flag, here, next) =
            inl (
              p,
              x,
              from,
              line,
              is,
              there p ∙ store,
              sym (marked p (Store x from line) store) ∙ flag,
              here ∙ begins_at p,
              code_is marks ir f u found (suc q) ∙ next,
            )

        other : (p : ℕ) × (i : Instruction) × (flag : Bool) × (flag_at flags (0 + p) ≡ flag)
            × (slice_get u.code p ≡ Some i) × (is_log i ≡ false)
            × (q ≡ new_place flags 0 0 u.code p + length (logs flag i))
            × (j ≡ led table flag i) → ComesFrom marks ir f q j
        other (p, i, flag, at_p, is, no_log, here, from) =
            let same_flag : flag ≡ flagged marks f p i = sym at_p ∙ marked p i is in
            let found_at : instruction_at ir.functions f p ≡ Some i = there p ∙ is in
            let before : logs flag i ≡ logs_before marks f p (instruction_at ir.functions f p) =
            ap (λ (b : Bool). logs b i) same_flag ∙ ap (logs_before marks f p) (sym found_at) in
            inr (
              p,
              i,
              found_at,
              no_log,
              here ∙ ap (λ (n : ℕ). n + length (logs flag i)) (begins_at p)
                  ∙ ap (λ (is : List Instruction). begins marks ir.functions f p + length is)
                  before,
              from ∙ ap (λ (places : List ℕ). led places flag i) same_table
                  ∙ ap (λ (b : Bool). led (places_of marks ir.functions f) b i) same_flag,
            )
