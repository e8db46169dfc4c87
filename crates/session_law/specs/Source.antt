-- What the source of a program says of a transaction: its parameters, its meaning on a pool, its
-- outcome there and the number of words that take a record; and which pool a heap holds under the
-- program's shapes.
use Rattle.std.specs.Prelude.{ℕ, ◌+◌, ◌*◌, ◌≡◌, if◌then◌else◌, nat_lt, Bool, List, []}
use Rattle.std.specs.Prelude.{length, Option, option_map, ℤ}
use Rattle.std.specs.Option.{option_map_or}
use Rattle.cache_model.specs.Cache.{Words}
use Rattle.pool_layout.specs.Headers.{HasHeaders}
use Rattle.pool_map.specs.PoolMap.{PoolMap}
use Rattle.pool_map.specs.declared.trap.TrapKind.TheVariants.{LogFull}
use Rattle.pm_machine.specs.HeapPool.{heap_of, pool_in}
use Rattle.c_tree.specs.ItemTree.{FunctionTree}
use Rattle.c_tree.specs.Program.{tree_of}
use Rattle.c_types.specs.Tables.{Tables, tables_of}
use Rattle.c_types.specs.Shapes.{shapes_of}
use Rattle.c_meaning.specs.Transaction.{Outcome, Trap, transaction, transaction_means}
use Rattle.ir.specs.declared.function.Ir.{Ir}
use Rattle.code_meaning.specs.Code.{code_start}
use Rattle.code_meaning.specs.Deeds.{Deed, deeds}
use Rattle.code_meaning.specs.Whole.{whole}
use Rattle.lower.specs.Program.{lowered}
use Rattle.lower_law.specs.Law.{entry_in}
use Rattle.cnvm_session.specs.declared.program.Program.{Program}
use Rattle.cnvm_session.specs.Pool.{sizes_of}
use Rattle.session_law.specs.Logged.{StoreAt, stores_in, TakeRecords}

abbrev pub program_tables : Program → Tables
program_tables program = tables_of (tree_of program.typed)

-- the number of parameters of a transaction; transactions are numbered from 1
abbrev pub source_parameters : Program → ℕ → Option ℕ
source_parameters program tx =
    option_map (λ (f : FunctionTree). length f.parameters) (transaction (program_tables program) tx)

-- what a transaction does on a pool, with the pool's ticks
abbrev pub means : Program → PoolMap → (tx : ℕ) → List ℤ → Outcome
means program pool tx args = transaction_means (program_tables program) pool tx args
    (sizes_of program).ticks

-- what a run of function g does on a pool until it ends, within these ticks
abbrev pub deeds_in : Ir → (ticks : ℕ) → PoolMap → List ℤ → (g : ℕ) → List Deed
deeds_in ir ticks pool args g =
    deeds ir ((ticks + 1) * whole ir.functions) (code_start g args pool ticks)

-- the stores of a transaction's run, with their heap words, in the code of the program's tree
-- without logs
abbrev pub run_stores : Program → PoolMap → (tx : ℕ) → List ℤ → List StoreAt
run_stores program pool tx args =
    stores_in (sizes_of program)
    (option_map_or (deeds_in (lowered program.typed) (sizes_of program).ticks pool args)
    (entry_in tx (lowered program.typed).functions) [])

-- the number of words that take a record in the transaction's run until it ends, by whether it is
-- marked
abbrev pub LogsBy : (marked : Bool) → Program → PoolMap → (tx : ℕ) → List ℤ → (logged : ℕ) → Type 0
LogsBy marked program pool tx args logged =
    TakeRecords marked (lowered program.typed).functions [] (run_stores program pool tx args) logged

-- The outcome with a log of C records: a full log if more than C words take a record; else what the
-- source says.
abbrev pub outcome_with : Program → PoolMap → (tx : ℕ) → List ℤ → (logged : ℕ) → Outcome
outcome_with program pool tx args logged =
    if nat_lt (sizes_of program).records logged then Trap LogFull else means program pool tx args

-- What a transaction comes to on a pool, marked or not. The program, the pool and the arguments
-- determine both the number of words that take a record and the outcome.
pub record ComesBy (marked : Bool) (program : Program) (pool : PoolMap) (tx : ℕ) (args : List ℤ)
    (logged : ℕ) (outcome : Outcome) : Type 0 where
  pub logs : LogsBy marked program pool tx args logged
  pub is : outcome_with program pool tx args logged ≡ outcome

abbrev pub source_pool : Program → Words → PoolMap
source_pool program h = pool_in (shapes_of program.typed) (sizes_of program) h

-- the pool that an image holds
abbrev pub pool_of_image : Program → Words → PoolMap
pool_of_image program image = source_pool program (heap_of (sizes_of program) image)

-- each slot's header is from 0 to the number of structs
abbrev pub HasSourceHeaders : Program → Words → Type 0
HasSourceHeaders program h =
    HasHeaders (sizes_of program) (length (shapes_of program.typed).structs) h
