use Rattle.std.proofs.Common.{◌≡◌, length}
use Rattle.c_meaning.specs.Locals.{oldest}
use Rattle.interpreter.proofs.locals.Locals.close_to.Given as goal

abbrev pub invariant-loop-self : goal.invariant-loop-self
invariant-loop-self l = oldest l.count l.self ≡ oldest l.count l.initial.self

abbrev pub decreases-loop-self : goal.decreases-loop-self
decreases-loop-self l = length l.self
