use Rattle.clobber_pass.specs.inside.Flow.{Flowing}
use Rattle.clobber_pass.specs.inside.Room.{room}
use Rattle.clobber_pass.proofs.flow.flows.Given as goal

abbrev pub invariant-loop-waiting : goal.invariant-loop-waiting
invariant-loop-waiting l = Flowing l.ir.functions l.topic l.exits l.entries l.tables l.waiting.items

abbrev pub decreases-loop-waiting : goal.decreases-loop-waiting
decreases-loop-waiting l = room l.entries
