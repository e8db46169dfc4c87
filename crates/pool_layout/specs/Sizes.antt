-- Numbers that follow from a pool's sizes: N slots, C records, R root words, L lines a slot.
use Rattle.std.specs.Prelude.{ℕ, ◌+◌, ◌-◌, ◌*◌, ◌/◌}
use Rattle.pool_layout.specs.declared.limits.Sizes.{Sizes}

-- RL, the number of lines that hold the root words: R divided by 8, rounded up
abbrev pub root_lines : Sizes → ℕ
root_lines s = (s.root_words + 7) / 8

-- W, the number of words of a slot: 8 L
abbrev pub slot_words : Sizes → ℕ
slot_words s = 8 * s.slot_lines

-- the number of lines: 6 + C + RL + L N
abbrev pub pool_lines : Sizes → ℕ
pool_lines s = 6 + s.records + root_lines s + s.slot_lines * s.slots

-- the pool's word where the heap begins, after the records
abbrev pub heap_start : Sizes → ℕ
heap_start s = 8 * (6 + s.records)

-- the number of heap words: 8 RL + W N
abbrev pub heap_words : Sizes → ℕ
heap_words s = 8 * root_lines s + slot_words s * s.slots

-- the heap word where a slot begins; slots are counted from 1
abbrev pub slot_word : Sizes → ℕ → ℕ
slot_word s slot = 8 * root_lines s + slot_words s * (slot - 1)
