use Rattle.walk_maker.specs.inside.Search.{SearchState, state, Swept}
use Rattle.walk_maker.proofs.search.sweep.Given as goal

abbrev pub invariant-loop-number : goal.invariant-loop-number
invariant-loop-number l = (end : SearchState) → Swept l.ir l.number (state l.table l.passed) end
    → Swept l.ir 0 (state l.initial.table l.initial.passed) end
