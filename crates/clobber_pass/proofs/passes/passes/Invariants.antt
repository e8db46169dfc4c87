use Rattle.clobber_pass.specs.inside.Calling.{Passing}
use Rattle.clobber_pass.specs.inside.Room.{all_room}
use Rattle.clobber_pass.proofs.passes.passes.Given as goal

abbrev pub invariant-loop-waiting : goal.invariant-loop-waiting
invariant-loop-waiting l = Passing l.ir.functions l.topic l.exits l.waiting.items

abbrev pub decreases-loop-waiting : goal.decreases-loop-waiting
decreases-loop-waiting l = all_room l.exits
