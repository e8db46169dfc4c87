-- The first free slot is free, and those before it aren't.
use Rattle.std.proofs.Common.{◌≡◌, ℕ, zero, suc, ◌+◌, ◌-◌, ◌<◌, ◌≤◌, List, [], ◌∷◌, Option, None}
use Rattle.std.proofs.Common.{Some, IsSome, length, slice_index_or, refl, sub-one, arith}
use Rattle.pool_map.specs.declared.object.Object.{Object}
use Rattle.pool_map.specs.PoolMap.{PoolMap, IsSlot, object_at, first_free, least_free}

record IsFirst (n : ℕ) (slots : List (Option Object)) (s : ℕ) : Type 0 where
  from : n ≤ s
  below : s < n + length slots
  free : slice_index_or slots (s - n) None ≡ None
  used : (i : ℕ) → i < s - n → IsSome (slice_index_or slots i None)

used_next : (n s : ℕ) (object : Object) (slots : List (Option Object)) → suc n ≤ s
    → ((i : ℕ) → i < s - suc n → IsSome (slice_index_or slots i None)) → (i : ℕ) → i < s - n
    → IsSome (slice_index_or (Some object ∷ slots) i None)
used_next n s object slots from used zero below = refl
used_next n s object slots from used (suc i) below = used i (omega arith)

free_next : (n s : ℕ) (slot : Option Object) (slots : List (Option Object)) → suc n ≤ s
    → slice_index_or slots (s - suc n) None ≡ None
    → slice_index_or (slot ∷ slots) (s - n) None ≡ None
free_next n s slot slots from free = let e : s - n ≡ suc (s - suc n) = omega arith in rw e free

first : (n : ℕ) (slots : List (Option Object)) (s : ℕ) → first_free n slots ≡ Some s
    → IsFirst n slots s
first n [] s e = absurd (cc)
first n (None ∷ slots) s e =
    let same : n ≡ s = cc in
    let none : s - n ≡ 0 = omega arith in
    record {
      from = omega arith;
      below = omega arith;
      free = rw none refl;
      used = λ i h.
          absurd (omega arith);
    }
first n (Some object ∷ slots) s e =
    let rest = first (suc n) slots s e in
    record {
      from = omega arith;
      below = omega arith;
      free = free_next n s (Some object) slots rest.from rest.free;
      used = used_next n s object slots rest.from rest.used;
    }

full : (n : ℕ) (slots : List (Option Object)) → first_free n slots ≡ None → (i : ℕ)
    → i < length slots
    → IsSome (slice_index_or slots i None)
full n [] e i below = absurd (omega arith)
full n (None ∷ slots) e i below = absurd (cc)
full n (Some object ∷ slots) e zero below = refl
full n (Some object ∷ slots) e (suc i) below = full (suc n) slots e i (omega arith)

at : (p : PoolMap) (s : ℕ) → 1 ≤ s → object_at p s ≡ slice_index_or p.slots (s - 1) None
at p zero some = absurd (omega arith)
at p (suc i) some = rw sub-one refl

pub least_free-some : (p : PoolMap) (s : ℕ) → least_free p ≡ Some s
    → IsSlot p s × (object_at p s ≡ None) × ((t : ℕ) → 1 ≤ t → t < s → IsSome (object_at p t))
least_free-some p s e =
    let is = first 1 p.slots s e in (
      (is.from, omega arith),
      rw (at p s is.from) is.free,
      λ t some below. rw (at p t some) (is.used (t - 1) (omega arith)),
    )

pub least_free-none : (p : PoolMap) → least_free p ≡ None → (s : ℕ) → IsSlot p s
    → IsSome (object_at p s)
least_free-none p e s slot = rw (at p s slot.0) (full 1 p.slots e (s - 1) (omega arith))
