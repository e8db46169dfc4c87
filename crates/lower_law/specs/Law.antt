-- Lowering keeps the meaning: the code of a tree that breaks no rule does what the tree means.
use Rattle.std.specs.Prelude.{◌≡◌, ℕ, zero, suc, ◌+◌, ◌*◌, ℤ, List, [], ◌∷◌, Option, None, Some}
use Rattle.std.specs.Prelude.{slice_get, if◌then◌else◌}
use Rattle.c_tree.specs.ItemTree.{FunctionTree}
use Rattle.c_tree.specs.Program.{Program, tree_of}
use Rattle.c_types.specs.Tables.{Tables, tables_of}
use Rattle.c_types.specs.Fault.{breaks}
use Rattle.pool_map.specs.PoolMap.{PoolMap}
use Rattle.c_meaning.specs.Meaning.{Out, Got, Stops, function_value, calls_of}
use Rattle.c_meaning.specs.Transaction.{Outcome, Done, Trap, transaction, transaction_means}
use Rattle.ir.specs.declared.function.IrFunction.{IrFunction}
use Rattle.ir.specs.declared.function.Ir.{Ir}
use Rattle.lower.specs.Program.{lowered}
use Rattle.code_meaning.specs.Whole.{whole}
use Rattle.code_meaning.specs.Code.{CodeEnd, Ended, Trapped, Unfinished, Stuck, exec, code_start}
use Rattle.code_meaning.specs.Code.{Means}

-- the end of a run that does what a call does
abbrev pub call_end : Out ℤ → CodeEnd
call_end (Got v w t) = Ended w v t
call_end (Stops trap) = Trapped trap.kind

-- Each function, called with n ticks while no other is open, reaches within (n + 1) times the
-- length of the code the end that its tree means, with value, pool and ticks left or with its trap,
-- if 255 more functions may be opened; and every run of it that has ended has that end. This holds
-- for every pool and any number of arguments.
pub record KeepsMeaning (t : Tables) (ir : Ir) : Type 0 where
  pub ends : (g : ℕ) (f : FunctionTree) (args : List ℤ) (w : PoolMap) (n : ℕ)
      → slice_get t.functions g ≡ Some f
      → exec ir ((n + 1) * whole ir.functions) (code_start g args w n)
      ≡ call_end (function_value t (calls_of t 255) f args w n)
  pub only : (g : ℕ) (f : FunctionTree) (args : List ℤ) (w : PoolMap) (n : ℕ) (e : CodeEnd)
      → slice_get t.functions g ≡ Some f
      → Means ir g args w n e → e ≡ call_end (function_value t (calls_of t 255) f args w n)

abbrev pub LowerLaw : Type 0
LowerLaw = (tree : Program) → breaks tree ≡ []
    → KeepsMeaning (tables_of (tree_of tree)) (lowered tree)

-- the numbers of the functions marked tx, among those from number g on
abbrev pub entries_from : (g : ℕ) → List IrFunction → List ℕ
entries_from g [] = []
entries_from g (u ∷ us) = if u.tx then g ∷ entries_from (g + 1) us else entries_from (g + 1) us

-- the function that is the transaction of that number, counted from 1
abbrev pub entry_in : (number : ℕ) → List IrFunction → Option ℕ
entry_in zero us = None
entry_in (suc i) us = slice_get (entries_from 0 us) i

-- the outcome of a run that has ended
abbrev pub ended_outcome : CodeEnd → Option Outcome
ended_outcome (Ended w v t) = Some (Done w v)
ended_outcome (Trapped k) = Some (Trap k)
ended_outcome Unfinished = None
ended_outcome Stuck = None

-- The same for a transaction, from its number: the function that it enters exists, and its run ends
-- at some step, with the outcome that the program's meaning gives.
abbrev pub TransactionLaw : Type 0
TransactionLaw = (tree : Program) → breaks tree ≡ [] → (number : ℕ) (f : FunctionTree)
    → transaction (tables_of (tree_of tree)) number ≡ Some f
    → (w : PoolMap) (args : List ℤ) (n : ℕ)
    → (g : ℕ) × (entry_in number (lowered tree).functions ≡ Some g)
    × ((e : CodeEnd) × Means (lowered tree) g args w n e
    × (ended_outcome e ≡ Some (transaction_means (tables_of (tree_of tree)) w number args n)))
