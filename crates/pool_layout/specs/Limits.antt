-- The limits on a pool's sizes.
use Rattle.std.specs.Prelude.{ℕ, ◌%◌, ◌≤◌, ◌≡◌}
use Rattle.pool_map.specs.declared.limits.TheConstants.{LEAST_SLOT, MOST_SLOT, RECORDS, ROOT_WORDS}
use Rattle.pool_map.specs.declared.limits.TheConstants.{SLOTS, TICKS}

abbrev pub IsWithin : (low high n : ℕ) → Type 0
IsWithin low high n = (low ≤ n) × (n ≤ high)

-- the words of a slot are whole lines
abbrev pub IsSlotWidth : ℕ → Type 0
IsSlotWidth w = IsWithin LEAST_SLOT MOST_SLOT w × (w % 8 ≡ 0)

-- each number is within its limit
abbrev pub InLimits : (slots records root_words slot_words ticks : ℕ) → Type 0
InLimits slots records root_words slot_words ticks =
    IsWithin 1 SLOTS slots × IsWithin 1 RECORDS records × IsWithin 1 ROOT_WORDS root_words
    × IsSlotWidth slot_words × IsWithin 1 TICKS ticks
