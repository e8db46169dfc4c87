-- The laws of the map, point by point: which object a slot has, and which word a field has, after a
-- call; and that the least free slot is the least.
use Rattle.std.specs.Prelude.{ℕ, ◌<◌, ◌≤◌, ◌≡◌, ◌≢◌, ◌⊎◌, Option, None, Some, IsSome, ℤ, pos}
use Rattle.std.specs.Prelude.{length, option_map}
use Rattle.pool_map.specs.declared.object.Object.{Object}
use Rattle.pool_map.specs.PoolMap.{PoolMap, IsSlot, object_at, least_free, with_object, new}
use Rattle.pool_map.specs.PoolMap.{HasField, read, write, read_root, write_root}

-- A slot has the object that was put there, or none if it was freed. The other slots stay.
abbrev pub ObjectLaw : Type 0
ObjectLaw =
    ((p : PoolMap) (s : ℕ) (object : Option Object) → IsSlot p s
    → object_at (with_object p s object) s ≡ object)
    × ((p : PoolMap) (s t : ℕ) (object : Option Object) → IsSlot p s → t ≢ s
    → object_at (with_object p s object) t ≡ object_at p t)

-- Each word of a new object is 0.
abbrev pub NewLaw : Type 0
NewLaw = (p : PoolMap) (s kind words i : ℕ) → IsSlot p s → read (new p s kind words) s i ≡ pos 0

-- The written field has the value. All other fields, all kinds and all free slots stay.
abbrev pub FieldLaw : Type 0
FieldLaw =
    ((p : PoolMap) (s i : ℕ) (value : ℤ) → HasField p s i → read (write p s i value) s i ≡ value)
    × ((p : PoolMap) (s i t j : ℕ) (value : ℤ) → HasField p s i → (t ≢ s) ⊎ (j ≢ i)
    → read (write p s i value) t j ≡ read p t j)
    × ((p : PoolMap) (s i t : ℕ) (value : ℤ) → HasField p s i
    → option_map (λ object. object.kind) (object_at (write p s i value) t)
    ≡ option_map (λ object. object.kind) (object_at p t))

abbrev pub RootLaw : Type 0
RootLaw =
    ((p : PoolMap) (i : ℕ) (value : ℤ) → i < length p.root
    → read_root (write_root p i value) i ≡ value)
    × ((p : PoolMap) (i j : ℕ) (value : ℤ) → j ≢ i → read_root (write_root p i value) j
    ≡ read_root p j)

-- The least free slot is a slot of the pool without an object, and each slot below it has an
-- object. If there is no least free slot, each slot has an object.
abbrev pub LeastLaw : Type 0
LeastLaw =
    ((p : PoolMap) (s : ℕ) → least_free p ≡ Some s
    → IsSlot p s × (object_at p s ≡ None) × ((t : ℕ) → 1 ≤ t → t < s → IsSome (object_at p t)))
    × ((p : PoolMap) → least_free p ≡ None → (s : ℕ) → IsSlot p s → IsSome (object_at p s))
