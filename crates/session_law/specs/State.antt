-- What the source knows of a session: the pool after all transactions that are done, how many they
-- are, the value of the last, and how the session stands. An interrupted transaction is owed, since
-- it isn't known yet whether it will be done.
use Rattle.std.specs.Prelude.{ℕ, suc, List, Option, ℤ, pos}
use Rattle.pool_map.specs.declared.trap.TrapKind.{TrapKind}
use Rattle.pool_map.specs.PoolMap.{PoolMap, empty_pool}
use Rattle.cnvm_session.specs.declared.program.Program.{Program}
use Rattle.cnvm_session.specs.Pool.{sizes_of}

pub record Pending : Type 0 where
  pub tx : ℕ
  pub args : List ℤ

-- ready for calls; or down and waiting for `power`, with a transaction owed or none; or unusable,
-- since a transaction trapped in its pool
pub data Standing : Type 0 where
  Ready : Standing
  Down : (owed : Option Pending) → Standing
  Unusable : (kind : TrapKind) → Standing

pub record SourceState : Type 0 where
  pub pool : PoolMap
  pub done : ℕ
  pub last : ℤ
  pub standing : Standing

-- only the standing changes
abbrev pub standing_as : Standing → SourceState → SourceState
standing_as standing s = record { pool = s.pool; done = s.done; last = s.last; standing = standing }

-- one more transaction is done, with this pool and this value
abbrev pub done_with : PoolMap → ℤ → Standing → SourceState → SourceState
done_with pool value standing s =
    record { pool = pool; done = suc s.done; last = value; standing = standing }

-- one more transaction is finished, which was rolled back: the pool and the last value stay
abbrev pub undone_as : Standing → SourceState → SourceState
undone_as standing s =
    record { pool = s.pool; done = suc s.done; last = s.last; standing = standing }

-- the words of a new pool
abbrev pub created : Program → SourceState
created program = record {
  pool = empty_pool (sizes_of program).root_words (sizes_of program).slots;
  done = 0;
  last = pos 0;
  standing = Ready;
}
