-- The numbers of a compiled program: the length of its code, and the bound on steps.
use Rattle.std.proofs.Common.{◌≡◌, ℕ, ◌+◌, ◌-◌, ◌*◌, ◌<◌, ◌≤◌, List, []}
use Rattle.std.proofs.Common.{◌∷◌, length, arith}
use Rattle.std.specs.List.{AllByRecursion}
use Rattle.std.proofs.lemmas.Nat.{mul-le}
use Rattle.pool_layout.specs.declared.limits.Sizes.{Sizes}
use Rattle.ir.specs.declared.instruction.Instruction.{Instruction}
use Rattle.ir.specs.declared.function.IrFunction.{IrFunction}
use Rattle.clobber_pass.specs.declared.marking.MarkTable.{MarkTable}
use Rattle.instrument.specs.Insert.{places_from, flags_from, logged_code}
use Rattle.instrument.proofs.LoggedCode.{logged_length}
use Rattle.pm_alloc.specs.Search.{IsPool}
use Rattle.pool_layout.specs.Sizes.{slot_words}
use Rattle.codegen.specs.Emit.{most_steps}
use Rattle.machine_law.specs.matching.Match.{most}
use Rattle.code_meaning.specs.Whole.{whole}

pub all_below : (n : ℕ) (us : List IrFunction) → whole us < n
    → AllByRecursion (λ (u : IrFunction). length u.code < n) us
all_below n [] low = tt
all_below n (u ∷ us) low = (omega (arith, low), all_below n us (omega (arith, low)))

-- logs at most double the code
pub logged_long : (marks : MarkTable) (f : ℕ) (code : List Instruction)
    → length (logged_code marks f code) ≤ 2 * length code
logged_long marks f code = logged_length (places_from (flags_from marks f 0 code) 0 0 code)
    (flags_from marks f 0 code) 0 code

-- a pool of these sizes has room for the search for a slot
pub is_pool : (s : Sizes) → IsPool s
is_pool s = record {
  some = s.slots_fit.0;
  few = s.slots_fit.1;
  lines = omega (arith, s.root_words_fit.1);
}

-- the bound on the machine's steps suffices for twice the steps of the code
pub enough_steps : (s : Sizes) (q w : ℕ) → w ≤ 64 * q + 256 →
    2 * ((s.ticks + 1) * w) * most s ≤ most_steps s q
enough_steps s q w few =
    let t : ℕ = s.ticks + 1 in
    let a : t * w ≤ t * (64 * q + 256) = mul-le t w t (64 * q + 256) (omega arith) few in
    let b : 2 * (t * w) ≤ 256 * (t * (64 * q + 256)) = omega (arith, a) in
    let c : 256 * (t * (64 * q + 256)) ≡ 256 * t * (64 * q + 256) = grind arith in
    let d : most s ≡ 80 + 20 * (slot_words s - 16) = grind arith in
    mul-le (2 * (t * w)) (most s) (256 * t * (64 * q + 256)) (80 + 20 * (slot_words s - 16))
    (omega (arith, b, c)) (omega (arith, d))
