-- The search for the least free slot. Headers are a slot apart, and a slot is free if its header
-- is 0. A search loads the headers from the first one on, up to and including that of the slot that
-- it finds.
use Rattle.std.specs.Prelude.{ℕ, zero, suc, ◌+◌, ◌<◌, ◌≤◌, if◌then◌else◌, ◌≡◌, ◌≢◌, ◌⊎◌, pos}
use Rattle.std.specs.Ordering.{int_eq}
use Rattle.cache_model.specs.Cache.{Words}
use Rattle.pool_layout.specs.declared.limits.Sizes.{Sizes}
use Rattle.pool_layout.specs.Sizes.{slot_words, slot_word}

-- the least free of n slots from number q on, whose headers begin at heap word w and are d words
-- apart; 0 if none is free
abbrev pub free_of : Words → (d n q w : ℕ) → ℕ
free_of heap d zero q w = 0
free_of heap d (suc n) q w = if int_eq (heap w) (pos 0) then q
    else free_of heap d n (q + 1) (w + d)

-- the number of headers that this search loads
abbrev pub tried : Words → (d n w : ℕ) → ℕ
tried heap d zero w = 0
tried heap d (suc n) w = suc (if int_eq (heap w) (pos 0) then 0 else tried heap d n (w + d))

-- the least free slot of a pool, or 0, and the number of headers that the search loads
abbrev pub least : Sizes → Words → ℕ
least s heap = free_of heap (slot_words s) s.slots 1 (slot_word s 1)

abbrev pub looks : Sizes → Words → ℕ
looks s heap = tried heap (slot_words s) s.slots (slot_word s 1)

-- u is one of n headers that are d words apart, from word w on
abbrev pub IsHeader : (w d n u : ℕ) → Type 0
IsHeader w d zero u = ⊥
IsHeader w d (suc n) u = (u ≡ w) ⊎ IsHeader (w + d) d n u

-- q is the least free slot, or 0 if none is free
abbrev pub IsLeast : Sizes → Words → ℕ → Type 0
IsLeast s heap zero = (p : ℕ) → 1 ≤ p → p ≤ s.slots → heap (slot_word s p) ≢ pos 0
IsLeast s heap (suc q) =
    (suc q ≤ s.slots) × (heap (slot_word s (suc q)) ≡ pos 0)
    × ((p : ℕ) → 1 ≤ p → p < suc q → heap (slot_word s p) ≢ pos 0)

-- A search finds the least free slot, and there is only one.
abbrev pub FindLaw : Type 0
FindLaw =
    (s : Sizes) (heap : Words) →
    IsLeast s heap (least s heap) × ((q : ℕ) → IsLeast s heap q → q ≡ least s heap)
