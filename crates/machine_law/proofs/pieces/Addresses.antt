-- Addresses: sums that don't wrap, and words within the heap.
use Rattle.std.proofs.Common.{◌≡◌, ℕ, ◌+◌, ◌^◌, ◌<◌, true, ℤ, pos, ap, ◌∙◌, arith}
use Rattle.std.proofs.Common.{ltb}
use Rattle.std.specs.Prelude.{◌+ℤ◌}
use Rattle.std.specs.Int.{w64, int_wrap}
use Rattle.std.proofs.lemmas.Bool.{lt-ltb}
use Rattle.std.proofs.lemmas.Int.{ints}
use Rattle.pool_layout.specs.declared.limits.Sizes.{Sizes}
use Rattle.pool_layout.specs.Sizes.{heap_words, slot_word}
use Rattle.code_meaning.specs.Code.{Spot, InRoot, InSlot}
use Rattle.pm_alloc.proofs.Search.{small}
use Rattle.pm_alloc.proofs.Slots.{word_within}
use Rattle.machine_law.specs.pieces.Stands.{heap_word}
use Rattle.machine_law.specs.pieces.Shows.{IsThere}

pub within : (s : Sizes) (x : Spot) → IsThere s x → ltb (heap_word s x) (heap_words s) ≡ true
within s (InRoot i) there = lt-ltb i (heap_words s) (omega arith)
within s (InSlot q i) there =
    lt-ltb (slot_word s q + 1 + i) (heap_words s)
    (omega (arith, word_within s q (1 + i) there.0 there.1 (omega (arith, there.2))))

pub root_address : (i j : ℕ) → i + j < 2 ^ 62 → int_wrap w64 (pos i +ℤ pos j) ≡ pos (j + i)
root_address i j short =
    let e : pos i +ℤ pos j ≡ pos (j + i) = omega (arith, ints) in
    ap (λ (z : ℤ). int_wrap w64 z) e ∙ small (j + i) (omega arith)
