-- A memory that keeps the newest version of every line in one list of words, and older versions
-- only for the lines that have any. This is the cache that it stands for.
use Rattle.std.specs.Prelude.{ℕ, ◌/◌, ◌*◌, ◌<◌, ◌≡◌, ◌==◌, cond, List, [], map, length}
use Rattle.std.specs.Prelude.{slice_index_or, Option, Some, None, ℤ, pos}
use Rattle.std.specs.Ordering.{nat_cmp}
use Rattle.std.specs.BTreeMap.{is_at}
use Rattle.std.specs.Map.{lookup}
use Rattle.cache_model.specs.Cache.{Words, Line, Cache, Memory}
use Rattle.cache_model.specs.Lists.{version_words}

-- the versions of a line that are older than its newest, oldest first, and the mark
pub record Older : Type 0 where
  pub older : List (List ℤ)
  pub mark : Option ℕ

-- the number of lines, the newest words, and the lines that have older versions
pub record Sparse : Type 0 where
  pub count : ℕ
  pub words : List ℤ
  pub kept : List (ℕ × Older)

-- the older versions of line l, if it has any
abbrev pub kept_at : List (ℕ × Older) → ℕ → Option Older
kept_at es l = lookup (is_at (nat_cmp l)) es

-- the newest version of line l; the words of other lines are 0
abbrev pub newest_of : List ℤ → ℕ → Words
newest_of words l p = cond (p / 8 == l) (slice_index_or words p (pos 0)) (pos 0)

abbrev pub sparse_line : List ℤ → Option Older → ℕ → Line
sparse_line words None l = record { older = []; newest = newest_of words l; mark = None }
sparse_line words (Some y) l =
    record { older = map (version_words l) y.older; newest = newest_of words l; mark = y.mark }

unfoldable pub sparse_cache : Sparse → Cache
sparse_cache s l = sparse_line s.words (kept_at s.kept l) l

abbrev pub sparse_memory : Sparse → Memory
sparse_memory s = record { lines = s.count; cache = sparse_cache s }

-- Each line has its words, and an entry of older versions belongs to an existing line and holds at
-- least one.
pub record IsTidySparse (s : Sparse) : Type 0 where
  pub words : length s.words ≡ 8 * s.count
  pub lines : (l : ℕ) (y : Older) → kept_at s.kept l ≡ Some y → l < s.count
  pub more : (l : ℕ) (y : Older) → kept_at s.kept l ≡ Some y → 0 < length y.older
