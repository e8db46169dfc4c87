-- The line and the column of a byte of a text, both counted from 1. Lines end with LF, and a column
-- counts bytes.
use Rattle.std.specs.Prelude.{ℕ, List, [], ◌∷◌, ◌+◌, ◌==◌, take, if◌then◌else◌}
use Rattle.plain_notes.specs.declared.place.Place.{Place}

abbrev pub text_start : Place
text_start = record { line = 1; column = 1 }

abbrev pub past_byte : Place → ℕ → Place
past_byte place b =
    if b == 10 then record { line = place.line + 1; column = 1 }
    else record { line = place.line; column = place.column + 1 }

abbrev pub past_bytes : Place → List ℕ → Place
past_bytes place [] = place
past_bytes place (b ∷ bytes) = past_bytes (past_byte place b) bytes

-- the place of the byte that has `start` bytes before it
abbrev pub place_of : List ℕ → (start : ℕ) → Place
place_of text start = past_bytes text_start (take start text)
