use Rattle.std.proofs.Common.{subst}
use Rattle.pmem.specs.inside.Placed.{AreApart}
use Rattle.pmem.proofs.Placed.{apart_placed}
use Rattle.pmem.proofs.kept_lines.KeptLines.len.Goals as goal

pub returns-clause-apart : goal.returns-clause-apart
returns-clause-apart c = subst AreApart c.self.view_is
    (apart_placed c.self.inside.places.items c.self.inside.entries.items c.self.invariant)
