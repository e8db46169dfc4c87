-- The events that write an image on blank lines: its words other than 0 are stored, the lines with
-- such a word are flushed, and a fence follows.
use Rattle.std.specs.Prelude.{ℕ, zero, suc, ◌*◌, Bool, not, if◌then◌else◌, List, [], ◌∷◌, ◌++◌}
use Rattle.std.specs.Prelude.{length, take, drop, slice_index_or, ℤ, pos}
use Rattle.std.specs.Ordering.{int_eq}
use Rattle.std.specs.List.{list_any}
use Rattle.cache_model.specs.Event.{CacheEvent, Store, Flush, Fence}

abbrev pub is_other : ℤ → Bool
is_other x = not (int_eq x (pos 0))

abbrev pub store_of : List ℤ → ℕ → List CacheEvent
store_of words w = if is_other (slice_index_or words w (pos 0))
    then Store w (slice_index_or words w (pos 0)) ∷ [] else []

-- the stores of n words, from word w on; a word that is 0 isn't stored
abbrev pub stores_of : List ℤ → ℕ → ℕ → List CacheEvent
stores_of words w zero = []
stores_of words w (suc n) = store_of words w ++ stores_of words (suc w) n

-- whether line l has a word other than 0
abbrev pub has_other : List ℤ → ℕ → Bool
has_other words l = list_any is_other (take 8 (drop (8 * l) words))

abbrev pub flush_of : List ℤ → ℕ → List CacheEvent
flush_of words l = if has_other words l then Flush l ∷ [] else []

-- the flushes of n lines, from line l on
abbrev pub flushes_of : List ℤ → ℕ → ℕ → List CacheEvent
flushes_of words l zero = []
flushes_of words l (suc n) = flush_of words l ++ flushes_of words (suc l) n

unfoldable pub opening_events : ℕ → List ℤ → List CacheEvent
opening_events lines words = stores_of words 0 (length words)
    ++ (flushes_of words 0 lines ++ Fence ∷ [])
