use Rattle.clobber_pass.specs.inside.Closed.{Made}
use Rattle.clobber_pass.specs.inside.Room.{room}
use Rattle.clobber_pass.proofs.sweep.run.Given as goal

abbrev pub invariant-loop-back : goal.invariant-loop-back
invariant-loop-back l = Made l.topic l.exits l.entry l.code l.rows

abbrev pub decreases-loop-back : goal.decreases-loop-back
decreases-loop-back l = room l.rows
