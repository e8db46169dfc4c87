-- What was taken was added.
use Rattle.std.proofs.Common.{◌≤◌}
use Rattle.pool_layout.proofs.Added.{TakesOnto}
use Rattle.pool_layout.proofs.taking.read_onto.Given as goal

abbrev pub invariant-reading : goal.invariant-reading
invariant-reading g l = record {
  taken : TakesOnto (g.S.Source.left l.fn.source) (g.S.Source.left l.source) l.most l.missing
      l.fn.image l.image;
  count : g.S.Source.faults l.fn.source ≤ g.S.Source.faults l.source;
}

abbrev pub decreases-reading : goal.decreases-reading
decreases-reading g l = l.missing
