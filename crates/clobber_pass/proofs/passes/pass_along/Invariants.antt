use Rattle.std.proofs.Common.{◌≤◌}
use Rattle.clobber_pass.specs.inside.Calling.{Passing}
use Rattle.clobber_pass.specs.inside.Room.{all_room}
use Rattle.clobber_pass.proofs.passes.pass_along.Given as goal

abbrev pub invariant-loop-index : goal.invariant-loop-index
invariant-loop-index l = Passing l.ir.functions l.topic l.exits l.waiting
    × (all_room l.exits ≤ all_room l.initial.exits)
