-- A small pool: one slot, two records, and one root word, the counter. Line 2 has the counts, line
-- 3 the function and its argument, line 5 the seal, lines 6 and 7 the records, and line 8 the
-- counter.
use Rattle.std.specs.Prelude.{ℕ, ◌==◌, cond, Bool, List, [], ◌∷◌, ℤ, pos}
use native.Mathlib.Bridge.{le_by_compare, IsLe}
use Rattle.cache_model.specs.Cache.{Words}
use Rattle.pool_layout.specs.declared.limits.Sizes.{Sizes}
use Rattle.pool_layout.specs.declared.places.Place.{Place}
use Rattle.pool_layout.specs.declared.places.Place.TheVariants.{RecordOld, RecordStamp, Heap}
use Rattle.pool_layout.specs.declared.places.TheConstants.{LAST, DONE, ATTEMPT, FUNCTION}
use Rattle.pool_layout.specs.declared.places.TheConstants.{FIRST_ARGUMENT, SEAL}
use Rattle.pool_layout.specs.Places.{at, pool_of}
use Rattle.pool_layout.specs.Limits.{IsWithin}
use Rattle.pool_layout.specs.Good.{Pool}
use Rattle.pool_map.specs.declared.limits.TheConstants.{RECORDS, ROOT_WORDS, SLOTS, TICKS}

-- the sizes are within their limits
pub small_slots : IsWithin 1 SLOTS 1
unfolding IsLe
small_slots = (le_by_compare 1 1 tt, le_by_compare 1 SLOTS tt)

pub small_records : IsWithin 1 RECORDS 2
unfolding IsLe
small_records = (le_by_compare 1 2 tt, le_by_compare 2 RECORDS tt)

pub small_root : IsWithin 1 ROOT_WORDS 1
unfolding IsLe
small_root = (le_by_compare 1 1 tt, le_by_compare 1 ROOT_WORDS tt)

pub small_slot : IsWithin 2 64 2
unfolding IsLe
small_slot = (le_by_compare 2 2 tt, le_by_compare 2 64 tt)

pub small_ticks : IsWithin 1 TICKS 1
unfolding IsLe
small_ticks = (le_by_compare 1 1 tt, le_by_compare 1 TICKS tt)

abbrev pub small_sizes : Sizes
small_sizes = record {
  slots = 1;
  records = 2;
  root_words = 1;
  slot_lines = 2;
  ticks = 1;
  slots_fit = small_slots;
  records_fit = small_records;
  root_words_fit = small_root;
  slot_fits = small_slot;
  ticks_fit = small_ticks;
}

-- the number of a place's word
abbrev pub small_word : Place → ℕ
small_word place = at (pool_of small_sizes) place

-- the counter, which is heap word 0
abbrev pub counter : ℕ
counter = small_word (Heap 0)

abbrev pub is_counter : ℕ → Bool
is_counter w = w == 0

-- these words by their numbers; all others are 0
abbrev pub words_with : List (ℕ × ℤ) → Words
words_with [] p = pos 0
words_with (entry ∷ entries) p = cond (p == entry.0) entry.1 (words_with entries p)

-- the pool with lines 0 and 1 as they are, and the heap of an image
abbrev pub small_pool : Words → Pool
small_pool image = record { sizes = small_sizes; super = image }

abbrev pub small_heap : Words → ℕ → ℤ
small_heap image w = image (small_word (Heap w))

-- a new pool after `inc 3`, its first call
abbrev pub after_inc : Words
after_inc = words_with ((LAST, pos 3) ∷ (DONE, pos 1) ∷ (ATTEMPT, pos 1) ∷ (FUNCTION, pos 1)
    ∷ (FIRST_ARGUMENT, pos 3) ∷ (SEAL, pos 1) ∷ (small_word (RecordStamp 0), pos 1)
    ∷ (counter, pos 3) ∷ [])

-- the same after `inc 5`, of which the retirement wasn't safe: the call is owed, with a record
abbrev pub owed_once : Words
owed_once = words_with ((LAST, pos 3) ∷ (DONE, pos 1) ∷ (ATTEMPT, pos 1) ∷ (FUNCTION, pos 1)
    ∷ (FIRST_ARGUMENT, pos 5) ∷ (SEAL, pos 2) ∷ (small_word (RecordOld 0), pos 3)
    ∷ (small_word (RecordStamp 0), pos 2) ∷ (counter, pos 8) ∷ [])

-- the same after a call that adds 5 twice, with a record each time
abbrev pub owed_twice : Words
owed_twice = words_with ((LAST, pos 3) ∷ (DONE, pos 1) ∷ (ATTEMPT, pos 1) ∷ (FUNCTION, pos 1)
    ∷ (FIRST_ARGUMENT, pos 5) ∷ (SEAL, pos 2) ∷ (small_word (RecordOld 0), pos 3)
    ∷ (small_word (RecordStamp 0), pos 2) ∷ (small_word (RecordOld 1), pos 8)
    ∷ (small_word (RecordStamp 1), pos 2) ∷ (counter, pos 13) ∷ [])

-- after `inc 5`, retired but for the attempt: nothing is owed, and its record is valid
abbrev pub retired_once : Words
retired_once = words_with ((LAST, pos 8) ∷ (DONE, pos 2) ∷ (ATTEMPT, pos 1) ∷ (FUNCTION, pos 1)
    ∷ (FIRST_ARGUMENT, pos 5) ∷ (SEAL, pos 2) ∷ (small_word (RecordOld 0), pos 3)
    ∷ (small_word (RecordStamp 0), pos 2) ∷ (counter, pos 8) ∷ [])
