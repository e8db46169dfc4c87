-- What is taken from a source.
use Rattle.std.specs.Prelude.{ℕ, ◌≡◌, ◌≤◌, ◌++◌, List, length, take, Option, IfSome}

-- Bytes were added, at most so many. If the source shows what is left, they are the first of it.
pub record ReadOnto (left : Option (List ℕ)) (most : ℕ) (old new : List ℕ) : Type 0 where
  pub bytes : List ℕ
  pub grown : new ≡ old ++ bytes
  pub first : IfSome left (λ all. bytes ≡ take most all)
  pub within : length bytes ≤ most
