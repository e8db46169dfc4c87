-- What a recovery needs of an image. Reading an image checks conditions from which this follows.
use Rattle.std.specs.Prelude.{ℕ, ◌^◌, ◌<◌, ◌≤◌, ◌≡◌, true, false, ℤ, pos}
use Rattle.cache_model.specs.Cache.{Words}
use Rattle.pool_layout.specs.declared.places.Version.TheVariants.{First}
use Rattle.pool_layout.specs.declared.places.Place.TheVariants.{Done, Attempt, Mark, Argument}
use Rattle.pool_layout.specs.declared.places.Place.TheVariants.{RecordWord, Heap}
use Rattle.pool_layout.specs.declared.rules.Rules.{Rules}
use Rattle.pool_layout.specs.Sizes.{heap_words}
use Rattle.pool_layout.specs.Places.{at}
use Rattle.pool_layout.specs.Image.{is_sealed_in, IsUpTo}
use Rattle.pool_layout.specs.Headers.{HasHeaders}
use Rattle.pool_layout.specs.Log.{WellMade, count}
use Rattle.pool_layout.specs.Restored.{restored}
use Rattle.pool_layout.specs.Content.{KeepsRules}

-- a number below n
abbrev pub IsBelow : ℕ → ℤ → Type 0
IsBelow n x = (u : ℕ) × (u < n) × (x ≡ pos u)

-- If an image is sealed, it names one of the transactions, its valid records lie in the heap, and
-- the heap that they restore has valid headers.
pub record NamesOwed (r : Rules) (a : ℕ) (image : Words) : Type 0 where
  pub function : (f : ℕ) × (1 ≤ f) × (f ≤ r.txs) × (image (at r.layout (Argument 0)) ≡ pos f)
  pub in_heap : (j : ℕ) → j < count r.layout a image
      → IsBelow (heap_words r.layout.sizes) (image (at r.layout (RecordWord j)))
  pub headers : HasHeaders r.layout.sizes r.structs (restored r.layout a image)

-- The mark, done and the attempt are in their ranges, the log is well made and the headers are
-- valid. If the image is sealed, it also holds what the interrupted transaction needs.
pub record IsOpenable (r : Rules) (image : Words) : Type 0 where
  pub mark : IsUpTo 8 (image (at r.layout Mark))
  pub done : IsUpTo (2 ^ 62) (image (at r.layout Done))
  pub attempt : ℕ
  pub attempt_is : image (at r.layout Attempt) ≡ pos attempt
  pub attempt_fits : attempt ≤ 2 ^ 62
  pub log : WellMade r.layout attempt image
  pub headers : HasHeaders r.layout.sizes r.structs (λ w. image (at r.layout (Heap w)))
  pub sealed : is_sealed_in r.layout.version image ≡ true → NamesOwed r attempt image
  pub first_unsealed : r.layout.version ≡ First → is_sealed_in r.layout.version image ≡ false

abbrev pub KeptOpens : Type 0
KeptOpens = (r : Rules) (image : Words) → KeepsRules r image → IsOpenable r image
