-- A compartment of a device: n lines from line f on, as a memory and a device of their own.
use Rattle.std.specs.Prelude.{ℕ, ◌+◌, ◌*◌, ◌<◌, ◌≤◌, ◌≡◌, ◌⊎◌, Bool, cond, nat_lt, map, List, ℤ}
use Rattle.std.specs.Prelude.{take, drop}
use Rattle.cache_model.specs.Event.{CacheEvent, Store, Flush, Fence}
use Rattle.cache_model.specs.Cache.{Words, Line, Cache, blank_line}
use Rattle.cache_model.specs.Play.{fence_line}
use Rattle.pmem.specs.Device.{Device}
use Rattle.pool_layout.specs.declared.limits.Sizes.{Sizes}
use Rattle.pool_layout.specs.Sizes.{pool_lines}

-- the words of a version, counted from line f
abbrev pub words_from : ℕ → Words → Words
words_from f v p = v (8 * f + p)

-- a line with its versions, whose words are counted from line f
abbrev pub line_counted_from : ℕ → Line → Line
line_counted_from f l = record {
  older = map (words_from f) l.older;
  newest = words_from f l.newest;
  mark = l.mark;
}

-- The cache of the compartment. The lines past it are blank, as in every memory.
unfoldable pub cache_in : (f n : ℕ) → Cache → Cache
cache_in f n c l = cond (nat_lt l n) (line_counted_from f (c (f + l))) blank_line

-- The device of the compartment: its own lines, and the whole device's switch, events left, armed
-- fault and count of faults.
abbrev pub device_in : (f n : ℕ) → Device → Device
device_in f n d = record {
  lines = n;
  cache = cache_in f n d.cache;
  on = d.on;
  left = d.left;
  armed = d.armed;
  faults = d.faults;
}

-- an event of the compartment as one of the whole device
abbrev pub lifted : ℕ → CacheEvent → CacheEvent
lifted f (Store w x) = Store (8 * f + w) x
lifted f (Flush l) = Flush (f + l)
lifted f Fence = Fence

-- the event's word or line is one of n lines
abbrev pub IsInside : ℕ → CacheEvent → Type 0
IsInside n (Store w x) = w < 8 * n
IsInside n (Flush l) = l < n
IsInside n Fence = Unit {0}

-- a line that is outside the compartment
abbrev pub IsOutside : (f n l : ℕ) → Type 0
IsOutside f n l = (l < f) ⊎ (f + n ≤ l)

-- a line as it was, or after fences, of which one does all that several do
abbrev pub fenced_if : Bool → Line → Line
fenced_if b l = cond b (fence_line l) l

-- The lines outside are as they were, except for fences.
abbrev pub AreAside : (f n : ℕ) → Bool → (c b : Cache) → Type 0
AreAside f n fenced c b = (l : ℕ) → IsOutside f n l → b l ≡ fenced_if fenced (c l)

-- The effect of a compartment's calls on the whole device: it has as many lines, and those outside
-- are as they were, except for fences.
pub record Aside (f n : ℕ) (d b : Device) : Type 0 where
  pub lines : b.lines ≡ d.lines
  pub fenced : Bool
  pub others : AreAside f n fenced d.cache b.cache

-- the first line of a worker's compartment
abbrev pub first_line : Sizes → ℕ → ℕ
first_line s worker = pool_lines s * worker

-- the words of a worker's compartment, of those of all compartments
abbrev pub words_within : Sizes → (worker : ℕ) → List ℤ → List ℤ
words_within s worker words = take (8 * pool_lines s) (drop (8 * first_line s worker) words)
