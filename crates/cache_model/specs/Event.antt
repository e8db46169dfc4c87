-- An event of persistent memory: a store of a value at a word, a flush of a line, or a fence of all
-- lines. Words and lines are numbered through the whole memory: word 8 * l + o is word o of line l.
use Rattle.std.specs.Prelude.{ℕ, ℤ}

pub data CacheEvent : Type 0 where
  Store : (word : ℕ) (value : ℤ) → CacheEvent
  Flush : (line : ℕ) → CacheEvent
  Fence : CacheEvent
