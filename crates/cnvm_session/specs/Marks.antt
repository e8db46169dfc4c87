-- Which transactions of a program are marked `abort`, so that a trap rolls them back, and whether a
-- pool owes one of them; which are marked `const`, so that they only look; and which return
-- `uint64_t`.
use Rattle.std.specs.Prelude.{ℕ, zero, suc, Bool, true, false, ◌&&◌, slice_get}
use Rattle.std.specs.List.{list_any}
use Rattle.std.specs.Option.{option_map_or}
use Rattle.cache_model.specs.Cache.{view}
use Rattle.pmem.specs.Device.{Device}
use Rattle.pool_layout.specs.Image.{is_sealed}
use Rattle.pm_machine.specs.declared.records.Policy.{Policy}
use Rattle.pm_machine.specs.declared.records.Policy.TheVariants.{EndPool, RollBack}
use Rattle.recovery.specs.Recovered.{tx_in}
use Rattle.c_tree.specs.ItemTree.{FunctionTree}
use Rattle.c_types.specs.Shapes.{transactions_of, is_unsigned}
use Rattle.c_types.specs.Transactions.{is_abort, is_const}
use Rattle.cnvm_session.specs.declared.program.Program.{Program}

abbrev pub is_marked : FunctionTree → Bool
is_marked f = is_abort f.mark

-- whether the transaction of that number, counted from 1, is marked; no other number is
abbrev pub rolls_back_of : Program → (tx : ℕ) → Bool
rolls_back_of program zero = false
rolls_back_of program (suc i) =
    option_map_or is_marked (slice_get (transactions_of program.typed) i) false

-- whether the transaction of that number only looks; no other number does
abbrev pub looks_of : Program → (tx : ℕ) → Bool
looks_of program zero = false
looks_of program (suc i) = option_map_or (λ (f : FunctionTree). is_const f.mark)
    (slice_get (transactions_of program.typed) i) false

-- what becomes of a trap: a marked transaction is rolled back, another one ends the pool
abbrev pub policy_of : (marked : Bool) → Policy
policy_of false = EndPool
policy_of true = RollBack

-- whether the program has a marked transaction
abbrev pub has_marked : Program → Bool
has_marked program = list_any is_marked (transactions_of program.typed)

-- whether the pool is sealed and its record names a marked transaction
abbrev pub owes_marked : Program → Device → Bool
owes_marked program d = is_sealed (view d.cache) && rolls_back_of program (tx_in d)

abbrev pub returns_unsigned : FunctionTree → Bool
returns_unsigned f = option_map_or is_unsigned f.result_type false

-- whether the transaction of that number returns `uint64_t`; no other number does
abbrev pub unsigned_of : Program → (tx : ℕ) → Bool
unsigned_of program zero = false
unsigned_of program (suc i) =
    option_map_or returns_unsigned (slice_get (transactions_of program.typed) i) false

-- whether the pool is sealed and its record names a transaction that returns `uint64_t`
abbrev pub owes_unsigned : Program → Device → Bool
owes_unsigned program d = is_sealed (view d.cache) && unsigned_of program (tx_in d)
