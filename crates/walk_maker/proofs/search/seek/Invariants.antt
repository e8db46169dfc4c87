use Rattle.walk_maker.specs.inside.Search.{SearchState, state, Stopped}
use Rattle.walk_maker.proofs.search.seek.Given as goal

abbrev pub invariant-loop-number : goal.invariant-loop-number
invariant-loop-number l = (end : SearchState) → Stopped l.ir l.number (state l.table l.passed) end
    → Stopped l.ir 0 (state l.initial.table l.initial.passed) end
