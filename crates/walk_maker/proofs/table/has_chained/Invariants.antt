use Rattle.walk_maker.specs.inside.Buckets.{IsPast}
use Rattle.walk_maker.proofs.table.has_chained.Given as goal

abbrev pub invariant-loop : goal.invariant-loop
invariant-loop l = IsPast l.all l.entry l.at
