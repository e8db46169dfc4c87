use Rattle.std.proofs.Common.{◌≤◌}
use Rattle.clobber_pass.specs.inside.Sweep.{exits_of, call_from}
use Rattle.clobber_pass.specs.inside.Room.{room}
use Rattle.clobber_pass.specs.inside.Carrying.{Carries}
use Rattle.clobber_pass.proofs.carry.past_call_in_args.Given as goal

abbrev pub invariant-loop-index : goal.invariant-loop-index
invariant-loop-index l =
    Carries l.next (call_from (exits_of l.exits l.function) l.to l.args l.row 0 l.row)
    l.initial.rows l.rows l.initial.growth l.growth
    × (room l.rows ≤ room l.initial.rows)
