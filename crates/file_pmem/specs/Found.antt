-- What the name of a pool's file leads to, and what opening or making the file changes of this. A
-- port may tell nothing of it: then it is `None`.
use Rattle.std.specs.Prelude.{◌/◌, ◌≡◌, List, ℤ, length, Option, Some, None}
use Rattle.file_pmem.specs.File.{FileLines, HoldsWords}
use Rattle.file_pmem.specs.declared.pools.Held.{Held}
use Rattle.file_pmem.specs.declared.pools.Held.TheVariants as held
use Rattle.file_pmem.specs.declared.pools.Made.{Made}
use Rattle.file_pmem.specs.declared.pools.Made.TheVariants as made

-- no file, one that is held, or one that isn't, with its lines
pub data Found : Type 0 where
  Nothing : Found
  Taken : Found
  There : (lines : FileLines) → Found

-- Opening has this answer. The file that is given has the lines that were told.
abbrev pub Opens : {F : Type 0} → (F → Option FileLines) → Held F → Option Found → Option Found
    → Type 0
Opens content r None b = b ≡ None
Opens content held.Missing (Some Nothing) b = b ≡ Some Nothing
Opens content (held.Held f) (Some (There lines)) b = (content f ≡ Some lines) × (b ≡ Some Taken)
Opens content held.Busy (Some Taken) b = b ≡ Some Taken
Opens content held.Failed (Some x) b = b ≡ Some x
Opens content _ _ b = ⊥

-- Making has this answer. A file is made only where there was none.
abbrev pub Makes : {F : Type 0} → Made F → Option Found → Option Found → Type 0
Makes r None b = b ≡ None
Makes (made.Made f) (Some Nothing) b = b ≡ Some Taken
Makes made.Busy (Some Taken) b = b ≡ Some Taken
Makes made.Busy (Some (There lines)) b = b ≡ Some (There lines)
Makes made.Failed (Some x) b = b ≡ Some x
Makes _ _ b = ⊥

-- The file, if one was made, holds these words, line after line, and nothing older.
abbrev pub MadeHolds : {F : Type 0} → (F → Option FileLines) → List ℤ → Made F → Type 0
MadeHolds content words (made.Made f) = HoldsWords (content f) (length words / 8) words
MadeHolds content words made.Busy = Unit {0}
MadeHolds content words made.Failed = Unit {0}
