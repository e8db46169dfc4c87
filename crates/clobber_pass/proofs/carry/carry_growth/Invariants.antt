use Rattle.std.proofs.Common.{◌≡◌, ◌≤◌, length, replicate}
use Rattle.clobber_pass.specs.inside.Room.{room}
use Rattle.clobber_pass.specs.inside.Carrying.{Carrying}
use Rattle.clobber_pass.proofs.carry.carry_growth.Given as goal

abbrev pub invariant-loop : goal.invariant-loop
invariant-loop l = Carrying l.topic l.exits l.entry l.code l.rows l.growth
    × (l.row.items ≡ replicate (length l.entry) 0) × (room l.rows ≤ room l.initial.rows)
