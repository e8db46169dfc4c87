use Rattle.std.proofs.Common.{◌≡◌, ◌≤◌, ◌*◌, length}
use Rattle.file_pmem.specs.File.{HoldsWords}
use Rattle.file_pmem.specs.inside.Reading.{KeepsNewest}
use Rattle.file_pmem.proofs.opening.words_in.Given as goal

abbrev pub invariant-loop-line : goal.invariant-loop-line
invariant-loop-line g l =
    HoldsWords (g.F.LineFile.content l.file) l.line l.words × (length l.words ≡ 8 * l.line)
    × KeepsNewest (g.F.LineFile.content l.initial.file) (g.F.LineFile.content l.file)
    × (g.F.LineFile.faults l.initial.file ≤ g.F.LineFile.faults l.file)
