use Rattle.std.proofs.Common.{◌≡◌, ◌++◌, map, take, drop}
use Rattle.file_pmem.specs.File.{settled_copies}
use Rattle.file_pmem.proofs.mem_file.settle_all.Given as goal

abbrev pub invariant-loop-line : goal.invariant-loop-line
invariant-loop-line l = l.line-items ≡ map settled_copies (take l.line-index l.initial.line-items)
    ++ drop l.line-index l.initial.line-items
