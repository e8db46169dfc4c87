-- A script is a list of lines, and a line is a list of words.
--     Lines end with LF. One CR before the LF is dropped. What comes after the last LF is a line
--     if it isn't empty, and keeps its CR.
--     Words are separated by spaces and tabs.
use Rattle.std.specs.Prelude.{ℕ, ◌-◌, length, take, slice_index, Bool, true, false, not, List, []}
use Rattle.std.specs.Prelude.{◌∷◌, ◌==◌, if◌then◌else◌, codes, filter}
use Rattle.cnvm_script.specs.Pieces.{pieces}

abbrev pub is_empty : List ℕ → Bool
is_empty [] = true
is_empty (b ∷ bs) = false

-- the line without a CR as its last byte
abbrev pub without_cr : List ℕ → List ℕ
without_cr line = if slice_index line (length line - 1) == 13
    then take (length line - 1) line else line

-- the lines, from the pieces between the LFs
abbrev pub lines_ended : List (List ℕ) → List (List ℕ)
lines_ended [] = []
lines_ended (last ∷ []) = if is_empty last then [] else last ∷ []
lines_ended (line ∷ next ∷ others) = without_cr line ∷ lines_ended (next ∷ others)

abbrev pub lines : List ℕ → List (List ℕ)
lines text = lines_ended (pieces (codes "\n") text)

abbrev pub words_of_line : List ℕ → List (List ℕ)
words_of_line line = filter (λ piece. not (is_empty piece)) (pieces (codes " \t") line)
