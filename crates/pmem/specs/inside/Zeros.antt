-- Words that a search has seen not to be 0.
use Rattle.std.specs.Prelude.{ℕ, ◌+◌, ◌*◌, ◌/◌, ◌<◌, ◌≡◌, ◌≢◌, Bool, true, false, List}
use Rattle.std.specs.Prelude.{slice_index_or, ℤ, pos}

-- none of n words, d apart from word w on, is 0
abbrev pub AreFull : List ℤ → (w d n : ℕ) → Type 0
AreFull words w d n = (i : ℕ) → i < n → slice_index_or words (w + d * i) (pos 0) ≢ pos 0

-- none of these words is 0 in a part of so many words that has its flag
abbrev pub AreFullParts : (size : ℕ) → List ℤ → (w d : ℕ) → List Bool → Type 0
AreFullParts size words w d flags = (i : ℕ) → slice_index_or flags (i / size) false ≡ true
    → slice_index_or words (w + d * i) (pos 0) ≢ pos 0
