use Rattle.std.proofs.Common.{ℕ, ◌+◌, ◌*◌, ◌≤◌, ◌≡◌, Some, length}
use Rattle.cache_model.specs.Collapse.{picked, kept}
use Rattle.pmem.specs.Sparse.{Older, kept_at, sparse_line}
use Rattle.pmem.proofs.sparse_lines.leave_all.Given as goal

abbrev pub invariant-leaving : goal.invariant-leaving
invariant-leaving l =
    ((p q : ℕ) → kept l.rest (picked l.picks p)
    (sparse_line l.words.items (kept_at l.lines p) p) q ≡ kept l.rest (picked l.picks p)
    (sparse_line l.initial.words.items (kept_at l.initial.lines p) p) q)
    × (length l.words.items ≡ length l.initial.words.items)
    × ((p : ℕ) (y : Older) → kept_at l.lines p ≡ Some y → 8 * p + 8 ≤ length l.words.items)

abbrev pub decreases-leaving : goal.decreases-leaving
decreases-leaving l = length l.lines
