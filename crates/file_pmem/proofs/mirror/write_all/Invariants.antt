use Rattle.std.proofs.Common.{◌≡◌}
use Rattle.cache_model.specs.Cache.{Memory}
use Rattle.file_pmem.specs.Mirror.{shown, IsSynced, IsFileCovered}
use Rattle.file_pmem.specs.declared.link.MirrorState.TheVariants.{Awake}
use Rattle.file_pmem.specs.inside.Writing.{AreNewest, IsOneOf}
use Rattle.file_pmem.proofs.mirror.write_all.Given as goal

abbrev pub invariant-loop-line : goal.invariant-loop-line
invariant-loop-line g l =
    (l.link.state ≡ Awake → l.initial.link.state ≡ Awake)
    × (IsSynced l.initial.link.dirty (shown g.F.LineFile.content l.initial.link)
    → IsSynced l.link.dirty (shown g.F.LineFile.content l.link))
    × (l.link.state ≡ Awake → AreNewest (shown g.F.LineFile.content l.link)
    (g.L.Lines.memory l.lines) l.line)
    × ((m : Memory) → IsOneOf m (g.L.Lines.memory l.lines)
    → IsFileCovered (shown g.F.LineFile.content l.initial.link) m
    → IsFileCovered (shown g.F.LineFile.content l.link) m)
