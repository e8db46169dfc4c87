-- Numbers that are words, from -2^63 to 2^63 - 1. A session's arguments and pools are made of
-- words, so what the definitions say of other numbers doesn't matter.
use Rattle.std.specs.Prelude.{ℕ, List, slice_index_or, ℤ, pos}
use Rattle.nvm_base.specs.Wrap.{IsWord}
use Rattle.pool_map.specs.PoolMap.{PoolMap, read, read_root}

abbrev pub AreWords : List ℤ → Type 0
AreWords args = (i : ℕ) → IsWord (slice_index_or args i (pos 0))

pub record HasPoolWords (w : PoolMap) : Type 0 where
  pub root : (i : ℕ) → IsWord (read_root w i)
  pub objects : (slot i : ℕ) → IsWord (read w slot i)
