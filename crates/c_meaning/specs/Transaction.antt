-- A transaction: the meaning of its body, from its arguments, with itself open, when 255 more
-- functions may be opened. It knows no machine, log or cache. The outcome is the pool after it and
-- its value, or a trap; beside it stands the place where it traps.
use Rattle.std.specs.Prelude.{ℕ, zero, suc, ℤ, pos, List, Option, None, Some, slice_get}
use Rattle.c_tree.specs.ItemTree.{FunctionTree}
use Rattle.c_types.specs.Tables.{Tables}
use Rattle.c_types.specs.Shapes.{transactions_in}
use Rattle.pool_map.specs.declared.trap.TrapKind.{TrapKind}
use Rattle.pool_map.specs.PoolMap.{PoolMap}
use Rattle.c_meaning.specs.Meaning.{Out, Got, Stops, function_value, calls_of}

pub data Outcome : Type 0 where
  Done : PoolMap → ℤ → Outcome
  Trap : TrapKind → Outcome

abbrev pub outcome : Out ℤ → Outcome
outcome (Got v p k) = Done p v
outcome (Stops trap) = Trap trap.kind

-- the place of the trap, if there is one
abbrev pub stop_place : Out ℤ → Option ℕ
stop_place (Got v p k) = None
stop_place (Stops trap) = Some trap.place

-- the transaction of that number, counted from 1, among these functions
abbrev pub transaction_in : ℕ → List FunctionTree → Option FunctionTree
transaction_in zero fs = None
transaction_in (suc i) fs = slice_get (transactions_in fs) i

abbrev pub transaction : Tables → ℕ → Option FunctionTree
transaction t number = transaction_in number t.functions

-- a transaction that doesn't exist does nothing and gives 0
abbrev pub run_transaction : Tables → Option FunctionTree → PoolMap → List ℤ → ℕ → Out ℤ
run_transaction t None p args ticks = Got (pos 0) p ticks
run_transaction t (Some f) p args ticks = function_value t (calls_of t 255) f args p ticks

abbrev pub transaction_means : Tables → PoolMap → (number : ℕ) → List ℤ → (ticks : ℕ) → Outcome
transaction_means t p number args ticks =
    outcome (run_transaction t (transaction t number) p args ticks)

-- the place of the token where a transaction traps, if it does
abbrev pub trap_place : Tables → PoolMap → (number : ℕ) → List ℤ → (ticks : ℕ) → Option ℕ
trap_place t p number args ticks =
    stop_place (run_transaction t (transaction t number) p args ticks)
