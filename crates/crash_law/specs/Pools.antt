-- What an image of a pool holds where a call is owed, and before and after a call.
use Rattle.std.specs.Prelude.{ℕ, suc, ◌^◌, ◌<◌, ◌≤◌, ◌≡◌, ◌⊎◌, List, ◌∷◌, length}
use Rattle.std.specs.Prelude.{slice_index_or, ℤ, pos}
use Rattle.cache_model.specs.Cache.{Words}
use Rattle.pool_layout.specs.declared.places.TheConstants.{LAST}
use Rattle.pool_layout.specs.declared.places.Place.TheVariants.{Super, Last, Done, Attempt, Mark}
use Rattle.pool_layout.specs.declared.places.Place.TheVariants.{Argument, Seal, RecordWord}
use Rattle.pool_layout.specs.Sizes.{heap_words}
use Rattle.pool_layout.specs.Places.{at, pool_of}
use Rattle.pool_layout.specs.Log.{WellMade, count}
use Rattle.pool_layout.specs.Restored.{restored}
use Rattle.pool_layout.specs.Good.{Pool, Good}

-- a call: its number less one, its function and its arguments
pub record Call : Type 0 where
  pub done : ℕ
  pub function : ℤ
  pub args : List ℤ

-- its words: the function (0), and then the arguments
abbrev pub call_word : Call → ℕ → ℤ
call_word call k = slice_index_or (call.function ∷ call.args) k (pos 0)

-- the word isn't in W, or it is in E
abbrev pub IsKept : (E W : ℕ → Type 0) → ℕ → Type 0
IsKept E W w = (W w → ⊥) ⊎ E w

-- the call is owed: it is sealed, the log restores what it needs, and the last value is as its end
-- asks
pub record Owed (pool : Pool) (call : Call) (E W : ℕ → Type 0) (h : ℕ → ℤ) (kept : ℤ → Type 0)
    (image : Words) : Type 0 where
  pub super : (k : ℕ) → k < LAST → image (at (pool_of pool.sizes) (Super k)) ≡ pool.super k
  pub last_is : kept (image (at (pool_of pool.sizes) Last))
  pub mark : image (at (pool_of pool.sizes) Mark) ≡ pos 0
  pub done : image (at (pool_of pool.sizes) Done) ≡ pos call.done
  pub done_fits : call.done ≤ 2 ^ 62
  pub sealed : image (at (pool_of pool.sizes) Seal) ≡ pos (suc call.done)
  pub call_is : (k : ℕ) → k ≤ length call.args →
      image (at (pool_of pool.sizes) (Argument k)) ≡ call_word call k
  pub attempt : ℕ
  pub attempt_is : image (at (pool_of pool.sizes) Attempt) ≡ pos attempt
  pub attempt_fits : attempt ≤ 2 ^ 62
  pub log : WellMade (pool_of pool.sizes) attempt image
  pub in_heap : (j : ℕ) → j < count (pool_of pool.sizes) attempt image
      → (u : ℕ) × (image (at (pool_of pool.sizes) (RecordWord j)) ≡ pos u)
      × (u < heap_words pool.sizes)
  pub restores : (w : ℕ) → w < heap_words pool.sizes → IsKept E W w
      → restored (pool_of pool.sizes) attempt image w ≡ h w

-- before the call, with the last value known too
pub record IsBefore (pool : Pool) (d : ℕ) (h : ℕ → ℤ) (last : ℤ) (image : Words) : Type 0 where
  pub good : Good pool d h image
  pub last_is : image (at (pool_of pool.sizes) Last) ≡ last

-- after call d, which gave this value: the seal is still the call's
pub record IsDone (pool : Pool) (d : ℕ) (h : ℕ → ℤ) (value : ℤ) (image : Words) : Type 0 where
  pub good : Good pool d h image
  pub last_is : image (at (pool_of pool.sizes) Last) ≡ value
  pub seal_is : image (at (pool_of pool.sizes) Seal) ≡ pos d

-- the last value
abbrev pub last_of : Pool → Words → ℤ
last_of pool image = image (at (pool_of pool.sizes) Last)

-- no record is valid at the image's own attempt
abbrev pub HasNoRecord : Pool → Words → Type 0
HasNoRecord pool image =
    (b : ℕ) → image (at (pool_of pool.sizes) Attempt) ≡ pos b →
    count (pool_of pool.sizes) b image ≡ 0

-- after call d, as IsDone, with no valid record
pub record IsRetired (pool : Pool) (d : ℕ) (h : ℕ → ℤ) (value : ℤ) (image : Words) : Type 0 where
  pub done : IsDone pool d h value image
  pub empty : HasNoRecord pool image
