-- The locals that a list of entries stands for: the newest is the last entry.
use Rattle.std.specs.Prelude.{◌≡◌, ◌<◌, ℕ, zero, suc, ℤ, List, [], ◌∷◌, length, map, reverse}
use Rattle.std.specs.Prelude.{Option, None, Some}
use Rattle.interpreter.specs.declared.entry.Entry.{Entry}
use Rattle.c_meaning.specs.Locals.{Local, assigned}

abbrev pub entry_local : Entry → Local
entry_local e = record { name = e.name.now; ty = e.ty; value = e.value }

abbrev pub seen_locals : List Entry → List Local
seen_locals es = reverse (map entry_local es)

-- the entries with another word at place i
abbrev pub with_entry_value : List Entry → ℕ → ℤ → List Entry
with_entry_value [] i v = []
with_entry_value (e ∷ es) zero v = record e { value = v } ∷ es
with_entry_value (e ∷ es) (suc i) v = e ∷ with_entry_value es i v

-- an assignment to the name changes the entry at this place; if there is no such place, it changes
-- nothing
abbrev pub Found : List ℕ → List Entry → Option ℕ → Type 0
Found name es None = (v : ℤ) → assigned name v (seen_locals es) ≡ seen_locals es
Found name es (Some i) = (i < length es)
    × ((v : ℤ) → seen_locals (with_entry_value es i v) ≡ assigned name v (seen_locals es))
