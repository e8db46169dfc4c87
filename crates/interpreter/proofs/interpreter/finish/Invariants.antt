use Rattle.std.proofs.Common.{◌≡◌}
use Rattle.c_types.specs.Views.{tables_in}
use Rattle.interpreter.specs.inside.Resume.{resumed, resumed_at}
use Rattle.interpreter.proofs.interpreter.finish.Given as goal

-- the remaining run has the outcome of the whole run from the start
abbrev pub invariant-loop : goal.invariant-loop
invariant-loop l = resumed_at (tables_in l.program) l.how l.run ≡ resumed (tables_in l.program)
    l.initial.run
