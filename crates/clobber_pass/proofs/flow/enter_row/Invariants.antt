use Rattle.std.proofs.Common.{◌≡◌, ◌++◌, ◌-◌}
use Rattle.clobber_pass.specs.inside.Told.{row_width}
use Rattle.clobber_pass.specs.inside.Flow.{enter_from, enter_row}
use Rattle.clobber_pass.proofs.flow.enter_row.Given as goal

abbrev pub invariant-loop-slot : goal.invariant-loop-slot
invariant-loop-slot l = l.new.items ++ enter_from l.args l.row l.slot
    (row_width l.fn.topic l.fn.registers - l.slot) ≡ enter_row l.fn.topic l.fn.registers
    l.args l.row
