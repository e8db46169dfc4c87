-- What reading leaves as it was.
use Rattle.std.specs.Prelude.{ℕ, ◌≡◌, Option, Some, None}
use Rattle.file_pmem.specs.File.{FileLines}

-- the newest copies stay
abbrev pub KeepsNewest : Option FileLines → Option FileLines → Type 0
KeepsNewest None None = Unit {0}
KeepsNewest (Some f) (Some g) = (k : ℕ) → (g k).newest ≡ (f k).newest
KeepsNewest _ _ = ⊥
