-- How many bits a table has still free: its words are below 2^16. An empty row counts as more room
-- than any row of words. Each bit that is added takes some room, so the sweeps end.
use Rattle.std.specs.Prelude.{◌+◌, ◌-◌, ◌*◌, ◌^◌, ℕ, List, [], ◌∷◌}

abbrev pub words_room : List ℕ → ℕ
words_room [] = 0
words_room (w ∷ ws) = (2 ^ 16 - w) + words_room ws

abbrev pub row_room : List ℕ → ℕ
row_room [] = 2 ^ 16 * 2 ^ 64 + 1
row_room (w ∷ ws) = words_room (w ∷ ws)

abbrev pub room : List (List ℕ) → ℕ
room [] = 0
room (row ∷ rows) = row_room row + room rows

-- the room of the tables of all functions
abbrev pub all_room : List (List (List ℕ)) → ℕ
all_room [] = 0
all_room (rows ∷ tables) = room rows + all_room tables
