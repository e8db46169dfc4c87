-- The first line of a text: it ends at the first LF.
use Rattle.std.specs.Prelude.{ℕ, suc, ◌+◌, ◌==◌, List, [], ◌∷◌, drop, if◌then◌else◌}

-- the number of bytes before the first LF, or of all if there is none
abbrev pub line_size : List ℕ → ℕ
line_size [] = 0
line_size (b ∷ bs) = if b == 10 then 0 else suc (line_size bs)

-- what is left of a text after its first line
abbrev pub after_line : List ℕ → List ℕ
after_line text = drop (line_size text + 1) text
