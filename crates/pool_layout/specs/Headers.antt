-- Valid headers: each slot's header is from 0 to the number of structs.
use Rattle.std.specs.Prelude.{ℕ, ◌≤◌, ℤ}
use Rattle.pool_layout.specs.declared.limits.Sizes.{Sizes}
use Rattle.pool_layout.specs.Sizes.{slot_word}
use Rattle.pool_layout.specs.Image.{IsUpTo}

abbrev pub HasHeaders : Sizes → (structs : ℕ) → (ℕ → ℤ) → Type 0
HasHeaders s structs h =
    (slot : ℕ) → 1 ≤ slot → slot ≤ s.slots → IsUpTo structs (h (slot_word s slot))
