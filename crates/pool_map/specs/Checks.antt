-- What a store, an index, a new object and a quotient check, in the source as in the code.
use Rattle.std.specs.Prelude.{ℕ, zero, suc, ℤ, pos, negsuc, ◌==◌, Bool, true, false, length}
use Rattle.std.specs.Prelude.{Option, None, Some, Result, Ok, Err, if◌then◌else◌, nat_lt}
use Rattle.nvm_base.specs.Operations as word
use Rattle.pool_map.specs.declared.object.Object.{Object}
use Rattle.pool_map.specs.declared.trap.TrapKind.{TrapKind}
use Rattle.pool_map.specs.declared.trap.TrapKind.TheVariants as trap
use Rattle.pool_map.specs.PoolMap.{PoolMap, new}

-- whether an object has a word of this number
abbrev pub has_word : Option Object → ℕ → Bool
has_word None i = false
has_word (Some object) i = nat_lt i (length object.fields)

-- a result, and what follows unless it is a trap
abbrev pub then_on : {A B : Type 0} → Result A TrapKind → (A → Result B TrapKind)
    → Result B TrapKind
then_on (Ok a) go = go a
then_on (Err k) go = Err k

-- an index among n elements
abbrev pub element_in : (len : ℕ) → ℤ → Result ℕ TrapKind
element_in n (pos i) = if nat_lt i n then Ok i else Err trap.Index
element_in n (negsuc i) = Err trap.Index

-- a pointer to a new object in this slot; NULL and the same pool where no slot is free
abbrev pub new_at : PoolMap → (kind words : ℕ) → Option ℕ → ℤ × PoolMap
new_at p kind words None = (pos 0, p)
new_at p kind words (Some s) = (pos s, new p s kind words)

abbrev pub is_zero : ℤ → Bool
is_zero (pos zero) = true
is_zero (pos (suc n)) = false
is_zero (negsuc n) = false

-- a quotient or a remainder, unless the divisor is 0
abbrev pub unless_zero : (divisor : ℤ) → ℤ → Option ℤ
unless_zero b v = if word.unsigned b == 0 then None else Some v
