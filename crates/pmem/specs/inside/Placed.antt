-- The places of the lines that have older versions.
use Rattle.std.specs.Prelude.{ℕ, ◌≡◌, List, [], ◌∷◌, Some, None, slice_get}
use Rattle.pmem.specs.Sparse.{Older, kept_at}

-- each entry's line has the entry's place
abbrev pub ArePlaced : List ℕ → List (ℕ × Older) → Type 0
ArePlaced ps es = (i : ℕ) (e : ℕ × Older) → slice_get es i ≡ Some e → slice_get ps e.0 ≡ Some i

-- the entry at place i is one of line l
abbrev pub IsEntry : List (ℕ × Older) → (i l : ℕ) → Type 0
IsEntry es i l = (y : Older) × (slice_get es i ≡ Some (l, y))

-- no two entries are of one line
abbrev pub AreApart : List (ℕ × Older) → Type 0
AreApart [] = Unit {0}
AreApart (e ∷ es) = (kept_at es e.0 ≡ None) × AreApart es
