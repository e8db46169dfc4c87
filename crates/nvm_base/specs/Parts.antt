-- What may have happened before a fault. A call that takes bytes from a source, or appends bytes to
-- a sink, may stop part of the way. If the source or the sink shows its content, these definitions
-- say what the call did.
use Rattle.std.specs.Prelude.{◌≡◌, ℕ, List, ◌++◌, length, Option}
use Rattle.std.specs.Io.KnownBytes.{Appends, Consumes}

-- some bytes were taken from the front, and C holds of their number
pub record Takes (old new : Option (List ℕ)) (C : ℕ → Type 0) : Type 0 where
  pub taken : List ℕ
  pub consumed : Consumes old new taken
  pub count : C (length taken)

-- a first part of bs was appended, perhaps an empty one
pub record AppendsPart (old new : Option (List ℕ)) (bs : List ℕ) : Type 0 where
  pub part : List ℕ
  pub rest : List ℕ
  pub split : bs ≡ part ++ rest
  pub appended : Appends old new part
