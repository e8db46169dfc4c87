use Rattle.std.proofs.Common.{◌≡◌, length, Some}
use Rattle.file_pmem.specs.File.{HoldsWords}
use Rattle.file_pmem.specs.MemFile.{lines_from}
use Rattle.file_pmem.proofs.mem_file.lines_of.Given as goal

abbrev pub invariant-loop-line : goal.invariant-loop-line
invariant-loop-line l = HoldsWords (Some (lines_from l.lines.items)) l.line l.words
    × (length l.lines.items ≡ l.line)
