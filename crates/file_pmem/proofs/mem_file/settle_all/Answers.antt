use Rattle.std.proofs.lemmas.List.Edits.{map_over_more}
use Rattle.file_pmem.specs.File.{settled_copies}
use Rattle.file_pmem.proofs.mem_file.settle_all.Goals as goal

pub loop-line-preserved : goal.loop-line-preserved
loop-line-preserved c = rw (c.settle.ensures, ← c.line-item.is)
    (map_over_more settled_copies _ _ _ _ c.loop-line-test.true c.loop-line.invariant
    c.line-item.is)
