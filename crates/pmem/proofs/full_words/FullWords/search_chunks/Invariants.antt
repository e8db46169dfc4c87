use Rattle.std.proofs.Common.{◌≡◌, ◌-◌, ◌≤◌}
use Rattle.pmem.specs.inside.Zeros.{AreFull}
use Rattle.pmem.specs.inside.Known.{IsKnown}
use Rattle.pmem.proofs.full_words.FullWords.search_chunks.Given as goal

abbrev pub invariant-searching : goal.invariant-searching
invariant-searching l = (l.self.first ≡ l.initial.self.first)
    × (l.self.apart ≡ l.initial.self.apart) × (l.known ≤ l.until)
    × AreFull l.words l.self.first l.self.apart l.known × IsKnown l.words l.self

abbrev pub decreases-searching : goal.decreases-searching
decreases-searching l = l.until - l.known
