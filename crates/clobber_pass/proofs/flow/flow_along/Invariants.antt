use Rattle.std.proofs.Common.{◌≤◌}
use Rattle.clobber_pass.specs.inside.Flow.{Flowing}
use Rattle.clobber_pass.specs.inside.Room.{room}
use Rattle.clobber_pass.proofs.flow.flow_along.Given as goal

abbrev pub invariant-loop-index : goal.invariant-loop-index
invariant-loop-index l = Flowing l.ir.functions l.topic l.exits l.entries l.tables l.waiting
    × (room l.entries ≤ room l.initial.entries)
