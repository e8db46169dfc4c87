-- The history of a session: the transactions that are finished, in order. It is a function of the
-- states: a step finishes a transaction exactly where the count of finished ones rises.
use Rattle.std.specs.Prelude.{◌==◌, Bool, true, false, List, [], ◌∷◌, ◌++◌}
use Rattle.pool_map.specs.PoolMap.{PoolMap}
use Rattle.c_meaning.specs.Transaction.{Outcome, Done, Trap}
use Rattle.cnvm_script.specs.declared.command.Command.{Command}
use Rattle.cnvm_script.specs.declared.command.Command.TheVariants as command
use Rattle.session_law.specs.State.{Pending}
use Rattle.session_law.specs.History.{call_to}
use Rattle.user_law.specs.Source.{Source, number_named, comes_to}
use Rattle.user_law.specs.State.{UserStanding, Owed, UserState}

-- the call that was cut off, if any
abbrev pub owed_in : UserStanding → List Pending
owed_in (Owed call seal) = call ∷ []
owed_in standing = []

-- the transaction that a command may finish: the one that it calls, or the one that was cut off
abbrev pub subject_of : Source → UserState → Command → List Pending
subject_of p s (command.Call name args) = call_to (number_named p name) args
subject_of p s (command.Power choice) = owed_in s.standing
subject_of p s c = []

abbrev pub finished_by : (same : Bool) → List Pending → List Pending
finished_by true subject = []
finished_by false subject = subject

abbrev pub grown_history : Source → UserState → Command → UserState → List Pending → List Pending
grown_history p s c t history =
    history ++ finished_by (t.done == s.done) (subject_of p s c)

-- the pool after an outcome; a transaction that was rolled back leaves it
abbrev pub pool_after : Outcome → PoolMap → PoolMap
pool_after (Done pool value) before = pool
pool_after (Trap kind) before = before

-- the pool after these transactions
abbrev pub pool_after_all : Source → PoolMap → List Pending → PoolMap
pool_after_all p pool [] = pool
pool_after_all p pool (call ∷ calls) =
    pool_after_all p (pool_after (comes_to p pool call) pool) calls
