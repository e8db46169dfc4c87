-- The words of a pool, of the root and of the objects alike.
use Rattle.std.specs.Prelude.{ℤ, if◌then◌else◌}
use Rattle.pool_map.specs.declared.word.PoolWord.{PoolWord}
use Rattle.pool_map.specs.declared.word.PoolWord.TheVariants.{Root, Field}
use Rattle.pool_map.specs.Checks.{has_word}
use Rattle.pool_map.specs.PoolMap.{PoolMap, object_at, read, write, read_root, write_root}

-- the word, or 0 if the pool has no such word
abbrev pub read_word : PoolMap → PoolWord → ℤ
read_word p (Root i) = read_root p i
read_word p (Field s i) = read p s i

-- the pool with another word there, if it has that word
abbrev pub write_word : PoolMap → PoolWord → ℤ → PoolMap
write_word p (Root i) v = write_root p i v
write_word p (Field s i) v = if has_word (object_at p s) i then write p s i v else p
