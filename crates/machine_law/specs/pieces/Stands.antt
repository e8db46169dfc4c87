-- The heap that stands for a pool: its first words are the root's, each slot's header is the kind
-- of the slot's object, or 0 if there is none, and an object's fields are the first words after its
-- header. All other words may have any value.
use Rattle.std.specs.Prelude.{ℕ, ◌≤◌, ◌<◌, ◌≡◌, length, Option, None, Some, ℤ, pos}
use Rattle.cache_model.specs.Cache.{Words}
use Rattle.pool_layout.specs.declared.limits.Sizes.{Sizes}
use Rattle.pool_layout.specs.declared.places.HeapPlace.{HeapPlace}
use Rattle.pool_layout.specs.declared.places.HeapPlace.TheVariants.{Root, Header, Field}
use Rattle.pool_layout.specs.Places.{heap_at}
use Rattle.pool_map.specs.declared.object.Object.{Object}
use Rattle.pool_map.specs.PoolMap.{PoolMap, object_at, HasField}
use Rattle.code_meaning.specs.Code.{Spot, InRoot, InSlot, load_spot}

-- the place in the heap of a word of a pool
abbrev pub place_of : Spot → HeapPlace
place_of (InRoot i) = Root i
place_of (InSlot q i) = Field q i

abbrev pub heap_word : Sizes → Spot → ℕ
heap_word s x = heap_at s (place_of x)

abbrev pub header_word : Sizes → ℕ → ℕ
header_word s q = heap_at s (Header q)

abbrev pub header_of : Option Object → ℤ
header_of None = pos 0
header_of (Some object) = pos object.kind

-- the pool has the word
abbrev pub HasWord : PoolMap → Spot → Type 0
HasWord w (InRoot i) = i < length w.root
HasWord w (InSlot q i) = HasField w q i

pub record Stands (s : Sizes) (heap : Words) (w : PoolMap) : Type 0 where
  pub root_words : length w.root ≡ s.root_words
  pub slots : length w.slots ≡ s.slots
  pub headers : (q : ℕ) → 1 ≤ q → q ≤ s.slots → heap (header_word s q) ≡ header_of (object_at w q)
  pub words : (x : Spot) → HasWord w x → heap (heap_word s x) ≡ load_spot w x
