-- The words of an image that was read, whatever its version: as many as the pool has, with the
-- superblock of the wanted pool, and all that a recovery needs.
use Rattle.std.specs.Prelude.{ℕ, ◌*◌, ◌≡◌, false, List, length, ℤ, pos}
use Rattle.cache_model.specs.Cache.{Words}
use Rattle.pool_layout.specs.declared.places.Place.TheVariants.{Super, Done, Mark, Heap}
use Rattle.pool_layout.specs.declared.limits.Sizes.{Sizes}
use Rattle.pool_layout.specs.declared.rules.Rules.{Rules}
use Rattle.pool_layout.specs.declared.wanted.Wanted.{Wanted}
use Rattle.pool_layout.specs.Sizes.{pool_lines}
use Rattle.pool_layout.specs.Places.{at, pool_of}
use Rattle.pool_layout.specs.Image.{image_words, is_sealed}
use Rattle.pool_layout.specs.Good.{HasSuper, Pool, Good}
use Rattle.pool_layout.specs.Opens.{IsOpenable}

-- the rules of a pool that is created or saved
abbrev pub wanted_rules : Wanted → Rules
wanted_rules wanted = record {
  layout = pool_of wanted.sizes;
  txs = wanted.txs;
  structs = wanted.structs;
}

pub record IsOpened (wanted : Wanted) (all : List ℤ) : Type 0 where
  pub whole : length all ≡ 8 * pool_lines wanted.sizes
  pub super : HasSuper wanted.sizes wanted.digest (image_words all)
  pub opens : IsOpenable (wanted_rules wanted) (image_words all)

-- a pool of these sizes with the first sixteen words of an image
abbrev pub image_pool : Sizes → Words → Pool
image_pool s image = record { sizes = s; super = λ k. image (at (pool_of s) (Super k)) }

-- if the mark is 0 and the image isn't sealed, it is at rest with its own heap
abbrev pub OpenedRests : Type 0
OpenedRests = (wanted : Wanted) (all : List ℤ) (d : ℕ) → IsOpened wanted all
    → image_words all (at (pool_of wanted.sizes) Mark) ≡ pos 0
    → image_words all (at (pool_of wanted.sizes) Done) ≡ pos d
    → is_sealed (image_words all) ≡ false
    → Good (image_pool wanted.sizes (image_words all)) d
    (λ w. image_words all (at (pool_of wanted.sizes) (Heap w))) (image_words all)
