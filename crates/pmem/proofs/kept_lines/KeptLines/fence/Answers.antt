use Rattle.std.proofs.Common.{ℕ, List, cond, refl, ap, ◌∙◌}
use Rattle.std.specs.Ordering.{nat_cmp}
use Rattle.std.specs.BTreeMap.{is_at}
use Rattle.pmem.specs.Sparse.{Older, kept_at}
use Rattle.std.proofs.Common.{sym}
use Rattle.pmem.specs.inside.Sparse.{fence_entry}
use Rattle.pmem.proofs.Placed.{placed_put, entry_put, fence_put, fence_gone}
use Rattle.pmem.proofs.kept_lines.KeptLines.fence.Goals as goal

pub returns-then-has_older : goal.returns-then-has_older
returns-then-has_older c = λ q. fence_put c.self.inside.places.items
    c.self.inside.entries.items _ c.in-Some.place c.args.line c.index_mut-entry.result.now
    c.fence.new.self c.self.invariant c.in-Some.ensures.found c.index_mut-entry.ensures.value refl
    c.fence.ensures (sym c.has_older.ensures ∙ c.if-has_older.true) q
    ∙ ap (λ (es : List (ℕ × Older)). cond (is_at (nat_cmp c.args.line) q)
    (fence_entry (kept_at es c.args.line)) (kept_at es q)) c.self.view_is

pub remove_at-kept-requires-clause-placed : goal.remove_at-kept-requires-clause-placed
remove_at-kept-requires-clause-placed c = placed_put c.self.inside.places.items
    c.self.inside.entries.items _ c.in-Some.place c.args.line c.index_mut-entry.result.now
    c.fence.new.self c.self.invariant c.in-Some.ensures.found c.index_mut-entry.ensures.value refl

pub remove_at-kept-requires-clause-entry : goal.remove_at-kept-requires-clause-entry
remove_at-kept-requires-clause-entry c = entry_put c.self.inside.entries.items _ c.in-Some.place
    c.args.line c.index_mut-entry.result.now c.fence.new.self c.in-Some.ensures.found
    c.index_mut-entry.ensures.value refl

pub returns : goal.returns
returns c = λ q. fence_gone c.self.inside.places.items c.self.inside.entries.items _
    c.remove_at-kept.new.entries.items c.in-Some.place c.args.line c.index_mut-entry.result.now
    c.fence.new.self c.self.invariant c.in-Some.ensures.found c.index_mut-entry.ensures.value refl
    c.fence.ensures (sym c.has_older.ensures ∙ c.if-has_older.false) c.remove_at-kept.ensures.gone q
    ∙ ap (λ (es : List (ℕ × Older)). cond (is_at (nat_cmp c.args.line) q)
    (fence_entry (kept_at es c.args.line)) (kept_at es q)) c.self.view_is
