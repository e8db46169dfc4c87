-- A pool, as the source sees it, is a list of root words and a map from the slots 1 to N to
-- objects. An object has a kind, which is its struct's number, and field words.
--     new    puts an object of a kind, with a number of words that are all 0, into a slot
--     free   takes the object out of a slot
--     read, write    act on one field word of the object in a slot
--     read_root, write_root    act on one root word
-- The least free slot is the least from 1 to N that has no object.
use Rattle.std.specs.Prelude.{ℕ, zero, suc, ◌-◌, ◌<◌, ◌≤◌, List, [], ◌∷◌, Option, None, Some, ℤ}
use Rattle.std.specs.Prelude.{pos, replicate, length, slice_set, slice_index_or, option_map}
use Rattle.std.specs.Prelude.{IsSomeAnd}
use Rattle.pool_map.specs.declared.object.Object.{Object}

-- slot s is at place s - 1 of `slots`, which has N places
pub record PoolMap : Type 0 where
  pub root : List ℤ
  pub slots : List (Option Object)

-- the pool whose root words are all 0 and whose slots are all free
abbrev pub empty_pool : (root_words slots : ℕ) → PoolMap
empty_pool r n = record { root = replicate r (pos 0); slots = replicate n None }

-- the pool has a slot s
abbrev pub IsSlot : PoolMap → ℕ → Type 0
IsSlot p s = (1 ≤ s) × (s ≤ length p.slots)

-- the object in slot s; none for slot 0 and past the last slot
abbrev pub object_at : PoolMap → ℕ → Option Object
object_at p zero = None
object_at p (suc i) = slice_index_or p.slots i None

-- the number of the first slot without an object, in a list of slots that begins with slot s
abbrev pub first_free : ℕ → List (Option Object) → Option ℕ
first_free s [] = None
first_free s (None ∷ objects) = Some s
first_free s (Some _ ∷ objects) = first_free (suc s) objects

abbrev pub least_free : PoolMap → Option ℕ
least_free p = first_free 1 p.slots

-- the pool with another object in slot s, or with none
abbrev pub with_object : PoolMap → ℕ → Option Object → PoolMap
with_object p s object = record { root = p.root; slots = slice_set p.slots (s - 1) object }

abbrev pub blank_object : (kind words : ℕ) → Object
blank_object kind words = record { kind = kind; fields = replicate words (pos 0) }

abbrev pub new : PoolMap → (slot kind words : ℕ) → PoolMap
new p s kind words = with_object p s (Some (blank_object kind words))

abbrev pub free : PoolMap → ℕ → PoolMap
free p s = with_object p s None

-- field i of the object, or 0 if there is none
abbrev pub field_of : Option Object → ℕ → ℤ
field_of None i = pos 0
field_of (Some object) i = slice_index_or object.fields i (pos 0)

abbrev pub with_field : ℕ → ℤ → Object → Object
with_field i value object = record { kind = object.kind; fields = slice_set object.fields i value }

-- slot s has an object, and that object has a field i
abbrev pub HasField : PoolMap → (slot field : ℕ) → Type 0
HasField p s i = IsSomeAnd (object_at p s) (λ object. i < length object.fields)

abbrev pub read : PoolMap → (slot field : ℕ) → ℤ
read p s i = field_of (object_at p s) i

abbrev pub write : PoolMap → (slot field : ℕ) → ℤ → PoolMap
write p s i value = with_object p s (option_map (with_field i value) (object_at p s))

abbrev pub read_root : PoolMap → ℕ → ℤ
read_root p i = slice_index_or p.root i (pos 0)

abbrev pub write_root : PoolMap → ℕ → ℤ → PoolMap
write_root p i value = record { root = slice_set p.root i value; slots = p.slots }
