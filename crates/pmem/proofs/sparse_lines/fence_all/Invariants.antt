use Rattle.std.proofs.Common.{ℕ, ◌≡◌, cond, nat_lt}
use Rattle.pmem.specs.Sparse.{kept_at}
use Rattle.pmem.specs.inside.Sparse.{fence_entry}
use Rattle.pmem.proofs.sparse_lines.fence_all.Given as goal

abbrev pub invariant-loop-line : goal.invariant-loop-line
invariant-loop-line l = (q : ℕ) → kept_at l.kept q ≡ cond (nat_lt q l.line)
    (fence_entry (kept_at l.initial.kept q)) (kept_at l.initial.kept q)
