-- Words as natural numbers.
use Rattle.std.specs.Prelude.{ℕ, ℤ, pos, negsuc}

-- the word's number; 0 for a word below 0
abbrev pub natural_of : ℤ → ℕ
natural_of (pos n) = n
natural_of (negsuc n) = 0
