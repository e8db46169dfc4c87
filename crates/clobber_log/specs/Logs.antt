-- The attempt of a pool and the number of its valid records, for any words; and the pools whose log
-- is well made: the attempt is a number from 0 to 2^62, each stamp is from 0 to one more than the
-- attempt, and the valid records, whose stamp is one more than the attempt, come first.
use Rattle.std.specs.Prelude.{ℕ, ◌-◌, ◌^◌, if◌then◌else◌, nat_lt, ℤ, pos, negsuc}
use Rattle.cache_model.specs.Cache.{Words}
use Rattle.pool_layout.specs.declared.limits.Sizes.{Sizes}
use Rattle.pool_layout.specs.declared.places.Place.TheVariants.{Attempt}
use Rattle.pool_layout.specs.Places.{at, pool_of}
use Rattle.pool_layout.specs.Log.{count}

-- A word as an attempt. A stamp is one more than the attempt and must fit a word, so a word that is
-- no attempt counts as the greatest.
abbrev pub attempt_of : ℤ → ℕ
attempt_of (pos n) = if nat_lt n (2 ^ 63 - 2) then n else 2 ^ 63 - 2
attempt_of (negsuc n) = 2 ^ 63 - 2

abbrev pub attempt_in : Sizes → Words → ℕ
attempt_in s image = attempt_of (image (at (pool_of s) Attempt))

abbrev pub count_in : Sizes → Words → ℕ
count_in s image = count (pool_of s) (attempt_in s image) image
