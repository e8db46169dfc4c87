-- The sink in memory. Its writes are numbered from 0, and the number stops at 2^64 - 1. A write
-- fails if its number is in `fail` or no room is left, and otherwise it doesn't. A write that
-- doesn't fail appends as many of the piece's bytes as there is room for.
use Rattle.std.specs.Prelude.{ℕ, ◌-◌, Bool, ◌||◌, ◌==◌, List, length, ◌++◌, take, min, nat_eq}
use Rattle.std.specs.Prelude.{if◌then◌else◌}
use Rattle.std.specs.List.{list_any}
use Rattle.nvm_base.specs.Rose.{raised}
use Rattle.nvm_base.specs.declared.sink.WriteAnswer.{WriteAnswer}
use Rattle.nvm_base.specs.declared.sink.WriteAnswer.TheVariants.{Count, Failed}

pub record Writer : Type 0 where
  pub written : List ℕ
  pub room : ℕ
  pub fail : List ℕ
  pub calls : ℕ
  pub faults : ℕ

-- the number of bytes that there is still room for
abbrev pub room_left : Writer → ℕ
room_left w = w.room - length w.written

-- whether the next write fails: its number is in `fail`, or no room is left
abbrev pub write_fails : Writer → Bool
write_fails w = list_any (λ n. nat_eq n w.calls) w.fail || (room_left w == 0)

-- the answer of the next write, for a piece of `size` bytes
abbrev pub write_of : Writer → (size : ℕ) → WriteAnswer
write_of w size = if write_fails w then Failed else Count (min size (room_left w))

-- the sink after a write of that piece with that answer
abbrev pub after_write : Writer → List ℕ → WriteAnswer → Writer
after_write w piece (Count n) =
    record w { written = w.written ++ take n piece; calls = raised w.calls }
after_write w piece Failed = record w { calls = raised w.calls; faults = raised w.faults }
