-- What only bodies and proofs need beside `Machine`: registers of which only the first are kept.
use Rattle.std.specs.Prelude.{ℕ, ◌-◌, List, ◌++◌, length, replicate, ℤ, pos}

-- the registers with all after those that are kept, n in all
abbrev pub all_words : ℕ → List ℤ → List ℤ
all_words n xs = xs ++ replicate (n - length xs) (pos 0)
