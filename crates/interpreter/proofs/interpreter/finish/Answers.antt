use Rattle.std.proofs.Common.{◌∙◌, rules}
use Rattle.interpreter.proofs.interpreter.finish.Goals as goal

pub returns-in_err-how-in-Some-clause-exact : goal.returns-in_err-how-in-Some-clause-exact
returns-in_err-how-in-Some-clause-exact c =
    let before = rw c.in-Some.ensures at c.loop.invariant in
    let does = rw before at c.in_err-how-in-Some.ensures.does in search rules

pub loop-preserved : goal.loop-preserved
loop-preserved c = c.in_ok-how-in-Some.ensures.does ∙ rw c.in-Some.ensures at c.loop.invariant
