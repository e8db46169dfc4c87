-- What a search in the heap of a device finds.
use Rattle.std.specs.Prelude.{ℕ}
use Rattle.pmem.specs.Device.{Device}
use Rattle.pool_layout.specs.declared.limits.Sizes.{Sizes}
use Rattle.pm_machine.specs.Find.{least, looks}
use Rattle.pm_machine.specs.Runs.{heap_in}

-- the least free slot, or 0
abbrev pub least_on : Sizes → Device → ℕ
least_on s d = least s (heap_in s d.cache)

-- the number of headers that the search loads
abbrev pub looks_on : Sizes → Device → ℕ
looks_on s d = looks s (heap_in s d.cache)
