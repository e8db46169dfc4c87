-- The number of events of each part of a call: with m arguments in p lines, a seal has m + p + 5, a
-- retirement 5 and a mark 3.
use Rattle.std.specs.Prelude.{ℕ, ◌+◌, ◌≡◌, ℤ, List, length}
use Rattle.args_log.specs.Seal.{payload_lines, seal_events}
use Rattle.args_log.specs.Retire.{retire_events, mark_events}

abbrev pub SealLength : Type 0
SealLength = (f : ℤ) (args : List ℤ) (k : ℤ) → length (seal_events f args k) ≡ length args
    + payload_lines (length args) + 5

abbrev pub RetireLength : Type 0
RetireLength = (v d a : ℤ) → length (retire_events v d a) ≡ 5

abbrev pub MarkLength : Type 0
MarkLength = (k : ℕ) → length (mark_events k) ≡ 3
