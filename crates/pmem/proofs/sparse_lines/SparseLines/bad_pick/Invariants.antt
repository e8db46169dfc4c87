use Rattle.std.proofs.Common.{◌≡◌, drop}
use Rattle.cache_model.specs.Collapse.{bad}
use Rattle.pmem.specs.Sparse.{sparse_memory}
use Rattle.pmem.proofs.sparse_lines.SparseLines.bad_pick.Given as goal

abbrev pub invariant-loop-pick : goal.invariant-loop-pick
invariant-loop-pick l = bad (sparse_memory l.self) (drop l.pick-index l.picks)
    ≡ bad (sparse_memory l.self) l.picks
