use Rattle.std.proofs.Common.{◌≡◌, ◌-◌, length}
use Rattle.c_types.specs.Looking.{known_after, storing}
use Rattle.c_types.specs.Views.{tables_in}
use Rattle.c_types.proofs.looking.storing.Given as goal

-- the rounds that are left lead where all of them lead
abbrev pub invariant-loop : goal.invariant-loop
invariant-loop l = known_after (tables_in l.program) (length l.functions - l.counter) l.known.items
    ≡ storing (tables_in l.program)
