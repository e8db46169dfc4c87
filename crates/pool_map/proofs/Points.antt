-- The map of slots to objects, point by point.
use Rattle.std.proofs.Common.{◌≡◌, ◌≢◌, ◌⊎◌, inl, inr, ℕ, zero, suc, ◌<◌, List, [], ◌∷◌, Option}
use Rattle.std.proofs.Common.{None, Some, IsSomeAnd, ℤ, pos, length, slice_index_or, replicate}
use Rattle.std.proofs.Common.{option_map, refl, ap, sub-one, arith}
use Rattle.std.proofs.lemmas.List.{get_or-set_same, get_or-set_other}
use Rattle.pool_map.specs.declared.object.Object.{Object}
use Rattle.pool_map.specs.PoolMap.{PoolMap, IsSlot, object_at, with_object, new, field_of}
use Rattle.pool_map.specs.PoolMap.{with_field, HasField, read, write, read_root, write_root}

pub object_at-with_object_same : (p : PoolMap) (s : ℕ) (object : Option Object) → IsSlot p s
    → object_at (with_object p s object) s ≡ object
object_at-with_object_same p zero object slot = absurd (omega arith)
object_at-with_object_same p (suc i) object slot =
    rw sub-one (get_or-set_same p.slots i object None (omega arith))

pub object_at-with_object_other : (p : PoolMap) (s t : ℕ) (object : Option Object)
    → IsSlot p s → t ≢ s
    → object_at (with_object p s object) t ≡ object_at p t
object_at-with_object_other p s zero object slot other = refl
object_at-with_object_other p zero (suc j) object slot other = absurd (omega arith)
object_at-with_object_other p (suc i) (suc j) object slot other =
    rw sub-one (get_or-set_other p.slots i j object None (λ e. other (ap suc e)))

zeros : (n i : ℕ) → slice_index_or (replicate n (pos 0)) i (pos 0) ≡ pos 0
zeros zero i = refl
zeros (suc n) zero = refl
zeros (suc n) (suc i) = zeros n i

pub read-new : (p : PoolMap) (s kind words i : ℕ) → IsSlot p s
    → read (new p s kind words) s i ≡ pos 0
read-new p s kind words i slot = rw (object_at-with_object_same p s _ slot) (zeros words i)

within : (slots : List (Option Object)) (n i : ℕ)
    → IsSomeAnd (slice_index_or slots n None) (λ o. i < length o.fields) → n < length slots
within [] n i h = absurd h
within (slot ∷ slots) zero i h = omega arith
within (slot ∷ slots) (suc n) i h = let below : n < length slots = within slots n i h in omega arith

pub IsSlot-HasField : (p : PoolMap) (s i : ℕ) → HasField p s i → IsSlot p s
IsSlot-HasField p zero i h = absurd h
IsSlot-HasField p (suc n) i h = let below : n < length p.slots = within p.slots n i h in
    (omega arith, omega arith)

written : (o : Option Object) (i : ℕ) (value : ℤ) → IsSomeAnd o (λ object. i < length object.fields)
    → field_of (option_map (with_field i value) o) i ≡ value
written None i value h = absurd h
written (Some object) i value h = get_or-set_same object.fields i value (pos 0) h

kept : (o : Option Object) (i j : ℕ) (value : ℤ) → j ≢ i
    → field_of (option_map (with_field i value) o) j ≡ field_of o j
kept None i j value other = refl
kept (Some object) i j value other = get_or-set_other object.fields i j value (pos 0) other

same_kind : (o : Option Object) (i : ℕ) (value : ℤ)
    → option_map (λ object. object.kind) (option_map (with_field i value) o)
    ≡ option_map (λ object. object.kind) o
same_kind None i value = refl
same_kind (Some object) i value = refl

pub read-write_same : (p : PoolMap) (s i : ℕ) (value : ℤ) → HasField p s i
    → read (write p s i value) s i ≡ value
read-write_same p s i value h =
    rw (object_at-with_object_same p s _ (IsSlot-HasField p s i h))
    (written (object_at p s) i value h)

same_or_other : (t s : ℕ) → (t ≡ s) ⊎ (t ≢ s)
same_or_other t s = grind arith

pub read-write_slot : (p : PoolMap) (s i t j : ℕ) (value : ℤ) → HasField p s i → t ≢ s
    → read (write p s i value) t j ≡ read p t j
read-write_slot p s i t j value h other =
    rw (object_at-with_object_other p s t _ (IsSlot-HasField p s i h) other) refl

read-write_field : (p : PoolMap) (s i j : ℕ) (value : ℤ) → HasField p s i → j ≢ i
    → read (write p s i value) s j ≡ read p s j
read-write_field p s i j value h other =
    rw (object_at-with_object_same p s _ (IsSlot-HasField p s i h))
    (kept (object_at p s) i j value other)

pub read-write_other : (p : PoolMap) (s i t j : ℕ) (value : ℤ) → HasField p s i → (t ≢ s) ⊎ (j ≢ i)
    → read (write p s i value) t j ≡ read p t j
read-write_other p s i t j value h (inl other) = read-write_slot p s i t j value h other
read-write_other p s i t j value h (inr other) =
    elim (same_or_other t s) [
      | inl e ↦ rw e (read-write_field p s i j value h other)
      | inr far ↦
          read-write_slot p s i t j value h far
    ]

pub kind-write : (p : PoolMap) (s i t : ℕ) (value : ℤ) → HasField p s i
    → option_map (λ object. object.kind) (object_at (write p s i value) t)
    ≡ option_map (λ object. object.kind) (object_at p t)
kind-write p s i t value h =
    elim (same_or_other t s) [
      | inl e ↦ rw (
        e,
        object_at-with_object_same p s
            (option_map (with_field i value) (object_at p s)) (IsSlot-HasField p s i h),
      )
          (same_kind (object_at p s) i value)
      | inr far ↦ rw (object_at-with_object_other p s t
          (option_map (with_field i value) (object_at p s)) (IsSlot-HasField p s i h) far) refl
    ]

pub read_root-write_root_same : (p : PoolMap) (i : ℕ) (value : ℤ) → i < length p.root
    → read_root (write_root p i value) i ≡ value
read_root-write_root_same p i value h = get_or-set_same p.root i value (pos 0) h

pub read_root-write_root_other : (p : PoolMap) (i j : ℕ) (value : ℤ) → j ≢ i
    → read_root (write_root p i value) j ≡ read_root p j
read_root-write_root_other p i j value other = get_or-set_other p.root i j value (pos 0) other
