-- The memory after a power cut with a given choice. A line with a pick keeps the picked version,
-- counted from 0 at the oldest. Any other line keeps its oldest version if the rest is old, and its
-- newest if the rest is new. The kept version becomes the line's only one, with no mark. A pick is
-- bad if the memory doesn't have its line or the line doesn't have its version.
use Rattle.std.specs.Prelude.{ℕ, ◌==◌, cond, List, [], ◌∷◌, length, slice_index_or, Option, Some}
use Rattle.std.specs.Prelude.{None, ◌+◌, ◌≤◌, nat_lt, ◌&&◌, Bool}
use Rattle.cache_model.specs.Cache.{Words, Line, Cache, Memory, versions}
use Rattle.cache_model.specs.declared.choice.Rest.{Rest}
use Rattle.cache_model.specs.declared.choice.Rest.TheVariants.{Old, New}
use Rattle.cache_model.specs.declared.choice.Pick.{Pick}
use Rattle.cache_model.specs.declared.choice.Choice.{Choice}

-- the version that the picks name for a line
abbrev pub picked : List Pick → ℕ → Option ℕ
picked [] l = None
picked (p ∷ ps) l = cond (p.line == l) (Some p.version) (picked ps l)

abbrev pub resting : Rest → Line → Words
resting Old l = slice_index_or (versions l) 0 l.newest
resting New l = l.newest

abbrev pub kept : Rest → Option ℕ → Line → Words
kept rest None l = resting rest l
kept rest (Some k) l = slice_index_or (versions l) k l.newest

abbrev pub left_line : Rest → Option ℕ → Line → Line
left_line rest pick l = record { older = []; newest = kept rest pick l; mark = None }

unfoldable pub left_cache : Cache → Rest → List Pick → Cache
left_cache c rest picks l = left_line rest (picked picks l) (c l)

-- the memory has the line, and the line has that version
abbrev pub is_good_pick : Memory → Pick → Bool
is_good_pick m p = nat_lt p.line m.lines && nat_lt p.version (length (versions (m.cache p.line)))

-- how many versions a line has; none if the memory doesn't have the line
abbrev pub version_count : Memory → ℕ → ℕ
version_count m l = cond (nat_lt l m.lines) (length (versions (m.cache l))) 0

-- the line of the first bad pick
abbrev pub bad : Memory → List Pick → Option ℕ
bad m [] = None
bad m (p ∷ ps) = cond (is_good_pick m p) (bad m ps) (Some p.line)

-- the memory after a power cut with this choice
abbrev pub collapse : Memory → Choice → Memory
collapse m choice = record { lines = m.lines; cache = left_cache m.cache choice.rest choice.picks }

-- the lines of the picks rise strictly, and the first is at least this one
abbrev pub RisesFrom : ℕ → List Pick → Type 0
RisesFrom n [] = Unit {0}
RisesFrom n (p ∷ ps) = (n ≤ p.line) × RisesFrom (p.line + 1) ps

abbrev pub Rises : List Pick → Type 0
Rises ps = RisesFrom 0 ps
