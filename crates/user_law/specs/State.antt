-- What the user knows at a moment: the pool after all transactions that are finished, how many they
-- are, the value of the last one done, and how the session stands.
use Rattle.std.specs.Prelude.{ℕ, suc, ℤ, pos, Bool, true, false}
use Rattle.pmem.specs.declared.answer.Phase.{Phase}
use Rattle.pool_map.specs.declared.trap.TrapKind.{TrapKind}
use Rattle.pool_map.specs.PoolMap.{PoolMap, empty_pool}
use Rattle.c_meaning.specs.Transaction.{Outcome, Done, Trap}
use Rattle.session_law.specs.State.{Pending}
use Rattle.user_law.specs.Source.{Source}

-- Ready for calls; or waiting for `power`, with nothing owed, or with a call that was cut off; or
-- unusable, since a transaction trapped. Of a call that was cut off it is known in how many of the
-- images that the device may leave its seal is: in none, in some perhaps, or in all. Once it is in
-- all it stays there until the call is finished.
pub data UserStanding : Type 0 where
  Ready Idle : UserStanding
  Owed : (call : Pending) → (seal : Phase) → UserStanding
  Unusable : (kind : TrapKind) → UserStanding

pub record UserState : Type 0 where
  pub pool : PoolMap
  pub done : ℕ
  pub last : ℤ
  pub standing : UserStanding

-- only the standing changes
abbrev pub stands_as : UserStanding → UserState → UserState
stands_as standing s = record { pool = s.pool; done = s.done; last = s.last; standing = standing }

-- After an outcome: the transaction is done; or it trapped, and is rolled back if it is marked, and
-- else makes the pool unusable. Unless it does, the session stands so.
abbrev pub state_after : UserStanding → (rolls : Bool) → Outcome → UserState → UserState
state_after standing rolls (Done pool value) s =
    record { pool = pool; done = suc s.done; last = value; standing = standing }
state_after standing true (Trap kind) s =
    record { pool = s.pool; done = suc s.done; last = s.last; standing = standing }
state_after standing false (Trap kind) s = stands_as (Unusable kind) s

-- a new pool
abbrev pub first_state : Source → UserState
first_state p = record {
  pool = empty_pool p.sizes.root_words p.sizes.slots;
  done = 0;
  last = pos 0;
  standing = Ready;
}
