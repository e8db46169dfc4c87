-- A fact about the object in a slot, as a fact about the slot's place in the list.
use Rattle.std.proofs.Common.{◌≡◌, ◌-◌, ◌<◌, ℕ, zero, suc, length, List, [], ◌∷◌, Option, None}
use Rattle.std.proofs.Common.{Some, slice_index_or, sub-one, IsSomeAnd}
use Rattle.pool_map.specs.declared.object.Object.{Object}
use Rattle.pool_map.specs.PoolMap.{PoolMap, HasField}

field_within : (slots : List (Option Object)) (n i : ℕ) (d : Option Object) (object : Object)
    → IsSomeAnd (slice_index_or slots n None) (λ o. i < length o.fields)
    → slice_index_or slots n d ≡ Some object
    → i < length object.fields
field_within [] n i d object h e = absurd h
field_within (slot ∷ slots) zero i d object h e = rw e at h
field_within (slot ∷ slots) (suc n) i d object h e = field_within slots n i d object h e

-- the object at the slot's place has the field, whatever the default past the list's end
pub HasField-place : (p : PoolMap) (s i : ℕ) (d : Option Object) (object : Object) → HasField p s i
    → slice_index_or p.slots (s - 1) d ≡ Some object → i < length object.fields
HasField-place p zero i d object h e = absurd h
HasField-place p (suc s) i d object h e = field_within p.slots s i d object h (rw sub-one at e)
