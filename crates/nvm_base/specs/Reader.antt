-- The source in memory. Its reads are numbered from 0, and the number stops at 2^64 - 1. A read
-- fails if its number is in `fail`, and otherwise it doesn't. A read that doesn't fail gives as
-- many of the remaining bytes as the piece has room for, at most `most`.
use Rattle.std.specs.Prelude.{ℕ, Bool, List, length, drop, min, nat_eq, if◌then◌else◌}
use Rattle.std.specs.List.{list_any}
use Rattle.nvm_base.specs.Rose.{raised}
use Rattle.nvm_base.specs.declared.source.ReadAnswer.{ReadAnswer}
use Rattle.nvm_base.specs.declared.source.ReadAnswer.TheVariants.{Count, Failed}

pub record Reader : Type 0 where
  pub left : List ℕ
  pub most : ℕ
  pub fail : List ℕ
  pub calls : ℕ
  pub faults : ℕ

-- whether the next read fails: its number is in `fail`
abbrev pub read_fails : Reader → Bool
read_fails r = list_any (λ n. nat_eq n r.calls) r.fail

-- the answer of the next read, for a piece of `room` bytes
abbrev pub read_of : Reader → (room : ℕ) → ReadAnswer
read_of r room = if read_fails r then Failed else Count (min (min r.most room) (length r.left))

-- the source after a read with that answer
abbrev pub after_read : Reader → ReadAnswer → Reader
after_read r (Count n) = record r { left = drop n r.left; calls = raised r.calls }
after_read r Failed = record r { calls = raised r.calls; faults = raised r.faults }
