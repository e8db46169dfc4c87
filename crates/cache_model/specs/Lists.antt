-- The same cache as lists: a cache is a list of lines, and a version is a list of eight words. A
-- line past the list is blank.
use Rattle.std.specs.Prelude.{ℕ, ◌/◌, ◌%◌, ◌<◌, ◌≡◌, ◌==◌, cond, List, [], map, length}
use Rattle.std.specs.Prelude.{slice_index_or, Option, None, ℤ, pos}
use Rattle.cache_model.specs.Cache.{Words, Line, Cache, Memory}

pub record ListLine : Type 0 where
  pub older : List (List ℤ)
  pub newest : List ℤ
  pub mark : Option ℕ

abbrev pub blank_list : ListLine
blank_list = record { older = []; newest = []; mark = None }

-- a version of line l, as words of the memory; the words of other lines are 0
abbrev pub version_words : ℕ → List ℤ → Words
version_words l v p = cond (p / 8 == l) (slice_index_or v (p % 8) (pos 0)) (pos 0)

abbrev pub line_from : ℕ → ListLine → Line
line_from l y = record {
  older = map (version_words l) y.older;
  newest = version_words l y.newest;
  mark = y.mark;
}

unfoldable pub cache_from : List ListLine → Cache
cache_from ls l = line_from l (slice_index_or ls l blank_list)

abbrev pub memory_from : List ListLine → Memory
memory_from ls = record { lines = length ls; cache = cache_from ls }

-- Each newest version has eight words.
abbrev pub IsWhole : List ListLine → Type 0
IsWhole ls = (l : ℕ) → l < length ls → length (slice_index_or ls l blank_list).newest ≡ 8
