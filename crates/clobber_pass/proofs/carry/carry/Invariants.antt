use Rattle.std.proofs.Common.{◌≤◌}
use Rattle.clobber_pass.specs.inside.Room.{room}
use Rattle.clobber_pass.specs.inside.Closed.{Made}
use Rattle.clobber_pass.proofs.carry.carry.Given as goal

abbrev pub invariant-loop-place : goal.invariant-loop-place
invariant-loop-place l = Made l.topic l.exits l.entry l.code l.rows
    × (room l.rows ≤ room l.initial.rows)
