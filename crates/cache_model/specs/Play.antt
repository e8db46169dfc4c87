-- The effect of an event, and of a list of events in order, on a cache.
use Rattle.std.specs.Prelude.{ℕ, ◌/◌, ◌≡◌, ◌==◌, cond, List, [], ◌∷◌, ◌++◌, length, drop, Option}
use Rattle.std.specs.Prelude.{Some, None, ℤ}
use Rattle.cache_model.specs.Event.{CacheEvent, Store, Flush, Fence}
use Rattle.cache_model.specs.Cache.{Words, put, Line, Cache, Memory}

-- A store appends a version to its line: the newest one with one word replaced, even if the value
-- is the same.
abbrev pub store_line : Line → ℕ → ℤ → Line
store_line l p x = record {
  older = l.older ++ l.newest ∷ [];
  newest = put l.newest p x;
  mark = l.mark;
}

-- A flush marks the newest version of its line if the line has more than one version; else it
-- changes nothing.
abbrev pub mark_of : List Words → Option ℕ → Option ℕ
mark_of [] m = m
mark_of (v ∷ vs) m = Some (length (v ∷ vs))

abbrev pub flush_line : Line → Line
flush_line l = record { older = l.older; newest = l.newest; mark = mark_of l.older l.mark }

-- In every line with a mark, a fence drops the versions older than the marked one and clears the
-- mark.
abbrev pub fence_at : Option ℕ → Line → Line
fence_at None l = l
fence_at (Some k) l = record { older = drop k l.older; newest = l.newest; mark = None }

abbrev pub fence_line : Line → Line
fence_line l = fence_at l.mark l

-- a fence leaves this line only its newest version
abbrev pub IsReady : Line → Type 0
IsReady l = (fence_line l).older ≡ []

unfoldable pub apply : Cache → CacheEvent → Cache
apply c (Store p x) l = cond (l == p / 8) (store_line (c l) p x) (c l)
apply c (Flush k) l = cond (l == k) (flush_line (c l)) (c l)
apply c Fence l = fence_line (c l)

abbrev pub play : Cache → List CacheEvent → Cache
play c [] = c
play c (e ∷ es) = play (apply c e) es

-- the memory after an event
abbrev pub after : Memory → CacheEvent → Memory
after m e = record { lines = m.lines; cache = apply m.cache e }
