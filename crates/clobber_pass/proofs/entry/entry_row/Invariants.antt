use Rattle.std.proofs.Common.{◌≡◌, ◌++◌, ◌-◌}
use Rattle.clobber_pass.specs.inside.Told.{row_width}
use Rattle.clobber_pass.specs.inside.Closed.{entry_from, entry_row}
use Rattle.clobber_pass.proofs.entry.entry_row.Given as goal

abbrev pub invariant-loop-slot : goal.invariant-loop-slot
invariant-loop-slot l = l.row.items ++ entry_from l.parameters l.column l.slot
    (row_width l.fn.topic l.registers - l.slot) ≡ entry_row l.fn.topic l.parameters
    l.registers l.column
