-- A cache gives each line a list of versions, oldest first and never empty, and perhaps a mark on
-- one of them.
use Rattle.std.specs.Prelude.{ℕ, ◌/◌, ◌==◌, cond, List, [], ◌∷◌, ◌++◌, Option, None, ℤ, pos}

-- Words by their numbers in the memory. In a version of a line, only the words of that line matter.
abbrev pub Words : Type 0
Words = ℕ → ℤ

-- the words, with one replaced
unfoldable pub put : Words → ℕ → ℤ → Words
put v p x q = cond (q == p) x (v q)

-- The versions older than the newest, oldest first; the newest version; and the mark, which is the
-- index of a version counted from the oldest.
pub record Line : Type 0 where
  pub older : List Words
  pub newest : Words
  pub mark : Option ℕ

-- all versions, oldest first
abbrev pub versions : Line → List Words
versions l = l.older ++ l.newest ∷ []

-- the lines by their numbers
abbrev pub Cache : Type 0
Cache = ℕ → Line

-- a cache with its number of lines; the lines past it are blank
pub record Memory : Type 0 where
  pub lines : ℕ
  pub cache : Cache

-- A blank line has one version, all zeros, and no mark.
abbrev pub blank_line : Line
blank_line = record { older = []; newest = λ p. pos 0; mark = None }

abbrev pub blank : Cache
blank l = blank_line

-- The view: the word in the newest version of its line.
unfoldable pub view : Cache → Words
view c p = (c (p / 8)).newest p
