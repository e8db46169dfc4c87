-- A table of rows.
use Rattle.std.specs.Prelude.{ℕ, List, [], slice_index_or}

-- the row of a place, empty if there is none
abbrev pub row_in : List (List ℕ) → ℕ → List ℕ
row_in rows p = slice_index_or rows p []
