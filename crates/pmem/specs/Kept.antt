-- The number of lines that have more than one version.
use Rattle.std.specs.Prelude.{ℕ, zero, suc, ◌+◌, cond, Bool, true, false, List, [], ◌∷◌}
use Rattle.cache_model.specs.Cache.{Words, Cache, Memory}

abbrev pub is_more : List Words → Bool
is_more [] = false
is_more (v ∷ vs) = true

-- among the n lines from line a on
abbrev pub more_from : Cache → (a n : ℕ) → ℕ
more_from c a zero = 0
more_from c a (suc n) = cond (is_more (c a).older) 1 0 + more_from c (suc a) n

abbrev pub more_lines : Memory → ℕ
more_lines m = more_from m.cache 0 m.lines
