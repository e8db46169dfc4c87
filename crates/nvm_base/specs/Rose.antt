-- The rule for counts of faults. A count is a number from 0 to 2^64 - 1 that never falls. Once it
-- has reached its last value it stays there. So 'the count rose' means: it is larger than before,
-- or it is at its last value.
use Rattle.std.specs.Prelude.{ℕ, ◌+◌, ◌-◌, ◌^◌, ◌≤◌, min}

-- one more, at most the last value
abbrev pub raised : ℕ → ℕ
raised count = min (count + 1) (2 ^ 64 - 1)

-- the count is larger than before, or at its last value
abbrev pub Rose : ℕ → ℕ → Type 0
Rose before after = min (before + 1) (2 ^ 64 - 1) ≤ after
