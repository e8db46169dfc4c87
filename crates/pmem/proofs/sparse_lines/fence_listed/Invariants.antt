use Rattle.std.proofs.Common.{ℕ, ◌≡◌, drop}
use Rattle.pmem.specs.Sparse.{kept_at}
use Rattle.pmem.specs.inside.Sparse.{fence_lines}
use Rattle.pmem.proofs.sparse_lines.fence_listed.Given as goal

abbrev pub invariant-loop-line : goal.invariant-loop-line
invariant-loop-line l = (q : ℕ) → fence_lines (drop l.line-index l.lines) (kept_at l.kept) q
    ≡ fence_lines l.lines (kept_at l.initial.kept) q
