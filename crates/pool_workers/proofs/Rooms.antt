-- The compartments of a device's workers are few lines, and lie within it.
use Rattle.std.proofs.Common.{◌≡◌, ℕ, suc, ◌+◌, ◌*◌, ◌^◌, ◌<◌, ◌≤◌, arith}
use Rattle.std.proofs.Math.Nat.{mul-suc, mul-le-mul_left}
use Rattle.std.proofs.lemmas.Nat.{mul-le}
use Rattle.pool_layout.specs.declared.limits.Sizes.{Sizes}
use Rattle.pool_layout.specs.Sizes.{pool_lines}
use Rattle.pool_workers.specs.Compartment.{first_line}

pub pool_few : (s : Sizes) → pool_lines s ≤ 2 ^ 27
pool_few s =
    let slots : s.slot_lines * s.slots ≤ 64 * 2 ^ 20 =
    mul-le s.slot_lines s.slots 64 (2 ^ 20) s.slot_fits.1 (omega (arith, s.slots_fit.1)) in
    omega (arith, slots, s.records_fit.1, s.root_words_fit.1)

-- the lines of n compartments
pub crew_few : (s : Sizes) (n : ℕ) → n ≤ 8 → pool_lines s * n ≤ 2 ^ 30
crew_few s n few = mul-le (pool_lines s) n (2 ^ 27) 8 (pool_few s) few

pub first_few : (s : Sizes) (worker first lines : ℕ) → worker < 8 → lines ≡ pool_lines s
    → first ≡ first_line s worker → first + lines ≤ 2 ^ 30
first_few s worker first lines few all is =
    omega (arith, crew_few s (suc worker) few, mul-suc (pool_lines s) worker, all, is)

-- a worker's compartment is one of n
pub compartment_within : (s : Sizes) (worker n lines : ℕ) → worker < n → lines ≡ pool_lines s * n
    → first_line s worker + pool_lines s ≤ lines
compartment_within s worker n lines less all =
    let within : pool_lines s * suc worker ≤ pool_lines s * n =
    mul-le-mul_left (pool_lines s) less in
    omega (arith, within, mul-suc (pool_lines s) worker, all)
