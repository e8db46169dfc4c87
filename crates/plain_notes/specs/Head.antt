-- The first line of a message: of a place in a text, of something else, or of a text as a whole.
use Rattle.std.specs.Prelude.{ℕ, List, ◌++◌, codes}
use Rattle.std.specs.Fmt.{decimal}
use Rattle.plain_notes.specs.declared.place.Place.{Place}

-- PATH:LINE:COLUMN: error: WHAT
abbrev pub head_text : (path : List ℕ) → Place → (what : List ℕ) → List ℕ
head_text path place what =
    path ++ (codes ":" ++ (decimal place.line ++ (codes ":" ++ (decimal place.column
    ++ (codes ": error: " ++ (what ++ codes "\n"))))))

-- cnvm: WHAT
abbrev pub plain_head : (what : List ℕ) → List ℕ
plain_head what = codes "cnvm: " ++ (what ++ codes "\n")

-- cnvm: PATH: WHAT
abbrev pub file_head : (path what : List ℕ) → List ℕ
file_head path what = codes "cnvm: " ++ (path ++ (codes ": " ++ (what ++ codes "\n")))
