-- The check index doesn't give the trap logfull.
use Rattle.std.proofs.Common.{ℕ, ℤ, pos, negsuc, Bool, true, false, if◌then◌else◌, Ok, Err, nat_lt}
use Rattle.pool_map.specs.declared.trap.TrapKind.TheVariants as trap
use Rattle.pool_map.specs.Checks.{element_in}
use Rattle.interpreter.specs.inside.Answers.{QuietTrap}

index_quiet : (inside : Bool) (i : ℕ)
    → QuietTrap {A = ℕ} (if inside then Ok i else Err trap.Index)
index_quiet true i e = let no : ⊥ = cc in no
index_quiet false i e = let no : ⊥ = cc in no

pub element_quiet : (n : ℕ) (i : ℤ) → QuietTrap (element_in n i)
element_quiet n (pos i) = index_quiet (nat_lt i n) i
element_quiet n (negsuc i) = λ e. let no : ⊥ = cc in no
