use Rattle.std.proofs.Common.{◌≡◌}
use Rattle.c_types.specs.Shapes.{numbered_from}
use Rattle.c_types.specs.Views.{tables_in}
use Rattle.cnvm_session.proofs.former.after_same.Given as goal

-- no struct so far has a number
abbrev pub invariant-loop-at : goal.invariant-loop-at
invariant-loop-at l = numbered_from l.at (tables_in l.new) ≡ numbered_from l.from (tables_in l.new)
