use Rattle.std.proofs.Common.{ℕ, List, ◌≡◌, cond, refl, ap, ◌∙◌}
use Rattle.std.specs.Ordering.{nat_cmp}
use Rattle.std.specs.BTreeMap.{is_at}
use Rattle.pmem.specs.Sparse.{Older, kept_at}
use Rattle.std.proofs.Common.{Some, slice_set}
use Rattle.pmem.specs.inside.Sparse.{more_older}
use Rattle.pmem.proofs.Placed.{keep_put, on_ok}
use Rattle.pmem.proofs.kept_lines.KeptLines.keep.Goals as goal

pub returns-in-Some-clause-done : goal.returns-in-Some-clause-done
returns-in-Some-clause-done c =
    let put : c.push.new.self ≡ more_older (Some c.index_mut-entry.result.now.1) c.args.version
    → (q : ℕ) → kept_at (slice_set c.self.inside.entries.items c.in-Some.place
    (c.index_mut-entry.result.now.0, c.push.new.self)) q
    ≡ cond (is_at (nat_cmp c.args.line) q)
    (Some (more_older (kept_at c.args.self.now c.args.line) c.args.version))
    (kept_at c.args.self.now q) = λ done q.
    keep_put c.self.inside.places.items c.self.inside.entries.items _ c.in-Some.place c.args.line
    c.index_mut-entry.result.now c.push.new.self c.args.version c.self.invariant
    c.in-Some.ensures.found c.index_mut-entry.ensures.value refl done q
    ∙ ap (λ (es : List (ℕ × Older)). cond (is_at (nat_cmp c.args.line) q)
    (Some (more_older (kept_at es c.args.line) c.args.version)) (kept_at es q)) c.self.view_is in
    on_ok _ c.push.ensures.done put
