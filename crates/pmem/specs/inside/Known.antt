-- What a device remembers of its searches for a word that is 0.
use Rattle.std.specs.Prelude.{List, ℤ}
use Rattle.pmem.specs.declared.full_words.FullWords.{FullWords}
use Rattle.pmem.specs.declared.full_words.TheConstants.{CHUNK, AREA}
use Rattle.pmem.specs.inside.Zeros.{AreFull, AreFullParts}

-- what is remembered is so
abbrev pub IsKnown : List ℤ → FullWords → Type 0
IsKnown words k = AreFull words k.first k.apart k.count
    × AreFullParts CHUNK words k.first k.apart k.chunks.items
    × AreFullParts AREA words k.first k.apart k.areas.items
