use Rattle.std.proofs.Common.{ℕ, List, ◌+◌, sym, ap, ◌∙◌}
use Rattle.pmem.specs.Sparse.{Older, kept_at}
use Rattle.pmem.specs.inside.Sparse.{count_of}
use Rattle.pmem.proofs.Placed.{count_entry}
use Rattle.pmem.proofs.kept_lines.KeptLines.versions.Goals as goal

pub returns-in-Some : goal.returns-in-Some
returns-in-Some c = ap (λ (n : ℕ). n + 1) c.len.ensures.len
    ∙ sym (count_entry c.self.inside.places.items c.self.inside.entries.items c.in-Some.place
    c.args.line c.index.result.now c.self.invariant c.in-Some.ensures.found c.index.ensures)
    ∙ ap (λ (es : List (ℕ × Older)). count_of (kept_at es c.args.line)) c.self.view_is
