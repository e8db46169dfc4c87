use Rattle.std.proofs.Common.{ℕ, List, cond, option_map, refl, ap, ◌∙◌}
use Rattle.std.specs.Ordering.{nat_cmp}
use Rattle.std.specs.BTreeMap.{is_at}
use Rattle.pmem.specs.Sparse.{Older, kept_at}
use Rattle.pmem.specs.inside.Sparse.{flush_older}
use Rattle.pmem.proofs.Placed.{mark_put}
use Rattle.pmem.proofs.kept_lines.KeptLines.mark.Goals as goal

pub returns-in-Some : goal.returns-in-Some
returns-in-Some c = λ q. mark_put c.self.inside.places.items c.self.inside.entries.items _
    c.in-Some.place c.args.line c.index_mut-entry.result.now c.flush.new.self c.self.invariant
    c.in-Some.ensures.found c.index_mut-entry.ensures.value refl c.flush.ensures q
    ∙ ap (λ (es : List (ℕ × Older)). cond (is_at (nat_cmp c.args.line) q)
    (option_map flush_older (kept_at es c.args.line)) (kept_at es q)) c.self.view_is
