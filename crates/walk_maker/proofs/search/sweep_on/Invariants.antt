use Rattle.std.proofs.Common.{ℕ, Option}
use Rattle.walk_maker.specs.inside.Search.{SearchState, state, Searched}
use Rattle.walk_maker.proofs.search.sweep_on.Given as goal

abbrev pub invariant-loop : goal.invariant-loop
invariant-loop l = (n : Option ℕ) (end : SearchState) → Searched l.ir (state l.table l.passed) n end
    → Searched l.ir (state l.initial.table l.initial.passed) n end
