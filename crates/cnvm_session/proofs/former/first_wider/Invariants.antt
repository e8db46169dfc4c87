use Rattle.std.proofs.Common.{◌≡◌}
use Rattle.c_types.specs.Shapes.{numbered_from}
use Rattle.c_types.specs.Views.{tables_in}
use Rattle.cnvm_session.specs.Former as former_is
use Rattle.cnvm_session.proofs.former.first_wider.Given as goal

-- no struct so far is too large
abbrev pub invariant-loop-at : goal.invariant-loop-at
invariant-loop-at l = former_is.first_wider l.room (numbered_from l.at (tables_in l.new))
    ≡ former_is.first_wider l.room (numbered_from l.from (tables_in l.new))
