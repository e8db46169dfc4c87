-- The pool that a heap holds, under given shapes: its root words, and an object in each slot whose
-- header is a struct's number. The object has the words after the header, as many as that struct
-- has. Struct numbers go up to 255, and an object has fewer words than a slot. Any other slot is
-- free.
use Rattle.std.specs.Prelude.{ℕ, zero, suc, ◌+◌, if◌then◌else◌, nat_le, nat_lt, List, []}
use Rattle.std.specs.Prelude.{◌∷◌, Option, Some}
use Rattle.std.specs.Prelude.{None, ℤ, pos, negsuc}
use Rattle.cache_model.specs.Cache.{Words}
use Rattle.pool_layout.specs.declared.limits.Sizes.{Sizes}
use Rattle.pool_layout.specs.declared.places.Place.TheVariants.{Heap}
use Rattle.pool_layout.specs.Sizes.{heap_words, slot_words, slot_word}
use Rattle.pool_layout.specs.Places.{at, pool_of}
use Rattle.pool_map.specs.declared.object.Object.{Object}
use Rattle.pool_map.specs.declared.shapes.StructShape.{StructShape}
use Rattle.pool_map.specs.declared.shapes.Shapes.{Shapes}
use Rattle.pool_map.specs.PoolMap.{PoolMap}
use Rattle.pool_map.specs.PoolFits.{words_of, struct_at}

-- heap word w, and 0 past the heap's end
abbrev pub heap_of : Sizes → Words → ℕ → ℤ
heap_of s image w = if nat_lt w (heap_words s) then image (at (pool_of s) (Heap w)) else pos 0

-- n words, from word w on
abbrev pub words_from : (ℕ → ℤ) → ℕ → ℕ → List ℤ
words_from h w zero = []
words_from h w (suc n) = h w ∷ words_from h (suc w) n

-- the object of that kind and struct whose header is heap word w
abbrev pub object_with : Sizes → (ℕ → ℤ) → ℕ → ℕ → Option StructShape → Option Object
object_with s h w kind None = None
object_with s h w kind (Some shape) =
    if nat_le (slot_words s) (words_of shape.fields) then None
    else Some (record { kind = kind; fields = words_from h (w + 1) (words_of shape.fields) })

-- the struct number in a header, if it may be one
abbrev pub kind_in : ℤ → Option ℕ
kind_in (pos kind) = if nat_lt kind 256 then Some kind else None
kind_in (negsuc n) = None

abbrev pub object_of : Sizes → List StructShape → (ℕ → ℤ) → ℕ → Option ℕ → Option Object
object_of s structs h w None = None
object_of s structs h w (Some kind) = object_with s h w kind (struct_at structs kind)

-- the object whose header is heap word w
abbrev pub object_in : Sizes → List StructShape → (ℕ → ℤ) → ℕ → Option Object
object_in s structs h w = object_of s structs h w (kind_in (h w))

-- the objects of n slots, from that slot on
abbrev pub objects_from : Sizes → List StructShape → (ℕ → ℤ) → ℕ → ℕ → List (Option Object)
objects_from s structs h slot zero = []
objects_from s structs h slot (suc n) =
    object_in s structs h (slot_word s slot) ∷ objects_from s structs h (suc slot) n

abbrev pub pool_in : Shapes → Sizes → (ℕ → ℤ) → PoolMap
pool_in shapes s h = record {
  root = words_from h 0 s.root_words;
  slots = objects_from s shapes.structs h 1 s.slots;
}
