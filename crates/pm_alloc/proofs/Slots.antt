-- Slots in a heap: their words are few, and each of them is one of the heap's.
use Rattle.std.proofs.Common.{ℕ, ◌+◌, ◌*◌, ◌^◌, ◌<◌, ◌≤◌, arith}
use Rattle.std.proofs.lemmas.Nat.{mul-le}
use Rattle.pool_layout.specs.declared.limits.Sizes.{Sizes}
use Rattle.pool_layout.specs.Sizes.{slot_words, heap_words, slot_word}
use Rattle.pool_layout.proofs.Slots.{slot_within}

-- the words of a pool's slots are few
pub slot_few : (s : Sizes) (q : ℕ) → q ≤ s.slots → slot_words s * q ≤ 2 ^ 29
slot_few s q high =
    let low : slot_words s * q ≤ 512 * 2 ^ 20 = mul-le (slot_words s) q 512 (2 ^ 20) (omega arith)
    (omega arith) in
    omega arith

-- a word of a slot is one of the heap's
pub word_within : (s : Sizes) (q j : ℕ) → 1 ≤ q → q ≤ s.slots → j < slot_words s
    → slot_word s q + j < heap_words s
word_within s q j some high short =
    let below = slot_within (slot_words s) s.slots q some high in
    omega (arith, below)
