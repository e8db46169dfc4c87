-- What a crash may leave of a file of lines. Each line has a newest copy, and the copies older than
-- it that a loss of power may still bring back: the one that was synced last, and those written
-- since, oldest first. A copy is the eight words of a line, and is whole.
use Rattle.std.specs.Prelude.{ℕ, ◌/◌, ◌%◌, ◌<◌, ◌≡◌, ◌⊎◌, ◌==◌, cond, List, [], ◌∷◌, ◌++◌, ℤ, pos}
use Rattle.std.specs.Prelude.{slice_index_or, Option, Some, None}
use Rattle.cache_model.specs.Cache.{Words}

-- the copies of one line
pub record Copies : Type 0 where
  pub older : List (List ℤ)
  pub newest : List ℤ

-- the lines of a file by their numbers
abbrev pub FileLines : Type 0
FileLines = ℕ → Copies

-- a line after one more copy was written
abbrev pub more_copies : Copies → List ℤ → Copies
more_copies y v = record { older = y.older ++ y.newest ∷ []; newest = v }

-- a line after a sync
abbrev pub settled_copies : Copies → Copies
settled_copies y = record { older = []; newest = y.newest }

-- the file after line l was written
abbrev pub file_written : FileLines → ℕ → List ℤ → FileLines
file_written f l v k = cond (k == l) (more_copies (f k) v) (f k)

-- the file after a sync
abbrev pub file_synced : FileLines → FileLines
file_synced f k = settled_copies (f k)

-- The file stayed as it was. A file may tell nothing of what it holds: then it is `None`.
abbrev pub StaysFile : Option FileLines → Option FileLines → Type 0
StaysFile None None = Unit {0}
StaysFile (Some f) (Some g) = (k : ℕ) → g k ≡ f k
StaysFile _ _ = ⊥

-- line l was written
abbrev pub WritesFile : Option FileLines → ℕ → List ℤ → Option FileLines → Type 0
WritesFile None l v None = Unit {0}
WritesFile (Some f) l v (Some g) = (k : ℕ) → g k ≡ file_written f l v k
WritesFile _ l v _ = ⊥

-- the file was synced
abbrev pub SyncsFile : Option FileLines → Option FileLines → Type 0
SyncsFile None None = Unit {0}
SyncsFile (Some f) (Some g) = (k : ℕ) → g k ≡ file_synced f k
SyncsFile _ _ = ⊥

-- What was read of line l is its newest copy.
abbrev pub ReadsFile : Option FileLines → ℕ → List ℤ → Type 0
ReadsFile None l v = Unit {0}
ReadsFile (Some f) l v = v ≡ (f l).newest

-- Nothing older than the newest copies is left.
abbrev pub IsSettled : Option FileLines → Type 0
IsSettled None = Unit {0}
IsSettled (Some f) = (k : ℕ) → (f k).older ≡ []

-- the copy is one of these
abbrev pub AmongCopies : List (List ℤ) → List ℤ → Type 0
AmongCopies [] v = ⊥
AmongCopies (u ∷ us) v = (v ≡ u) ⊎ AmongCopies us v

-- a crash may leave this copy of the line
abbrev pub IsCopy : Copies → List ℤ → Type 0
IsCopy y v = (v ≡ y.newest) ⊎ AmongCopies y.older v

-- the words of line l are those of the copy
abbrev pub AgreesAt : ℕ → List ℤ → Words → Type 0
AgreesAt l v u = (p : ℕ) → p / 8 ≡ l → slice_index_or v (p % 8) (pos 0) ≡ u p

-- A crash may leave this of the first n lines: each has one of its copies.
abbrev pub MayLeave : FileLines → ℕ → Words → Type 0
MayLeave f n image = (l : ℕ) → l < n → (v : List ℤ) × IsCopy (f l) v × AgreesAt l v image

-- Each copy of each line is all zeros.
abbrev pub IsZeroFile : Option FileLines → Type 0
IsZeroFile None = Unit {0}
IsZeroFile (Some f) = (l : ℕ) (v : List ℤ) → IsCopy (f l) v → (i : ℕ)
    → slice_index_or v i (pos 0) ≡ pos 0

-- Of the first n lines nothing is left but these words, in order.
abbrev pub HoldsWords : Option FileLines → ℕ → List ℤ → Type 0
HoldsWords None n words = Unit {0}
HoldsWords (Some f) n words = ((l : ℕ) → (f l).older ≡ [])
    × ((l : ℕ) → l < n → AgreesAt l (f l).newest (λ p. slice_index_or words p (pos 0)))

-- The newest copies of the first n lines are these words, in order.
abbrev pub HoldsNewest : Option FileLines → ℕ → List ℤ → Type 0
HoldsNewest None n words = Unit {0}
HoldsNewest (Some f) n words =
    (l : ℕ) → l < n → AgreesAt l (f l).newest (λ p. slice_index_or words p (pos 0))
