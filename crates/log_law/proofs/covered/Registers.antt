-- Registers after a write, and those that a call passes.
use Rattle.std.proofs.Common.{◌≡◌, ℕ, zero, suc, ℤ, List, [], ◌∷◌, map, Some, slice_get}
use Rattle.std.proofs.Common.{ap}
use Rattle.code_meaning.specs.Code.{register_at}

pub at_map : (regs : List ℤ) (args : List ℕ) (j b : ℕ) → slice_get args j ≡ Some b
    → register_at (map (register_at regs) args) j ≡ register_at regs b
at_map regs [] j b is = absurd (cc)
at_map regs (a ∷ args) zero b is = ap (register_at regs) (cc)
at_map regs (a ∷ args) (suc j) b is = at_map regs args j b is
