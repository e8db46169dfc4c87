use Rattle.std.proofs.Common.{List, inr, ap, ◌∙◌}
use Rattle.cache_model.specs.Collapse.{picked, kept, collapse}
use Rattle.cache_model.specs.declared.choice.Pick.{Pick}
use Rattle.pmem.specs.Sparse.{Sparse, sparse_memory, sparse_line, kept_at}
use Rattle.pmem.proofs.Cuts.{cut_sparse, cut_tidy}
use Rattle.pmem.proofs.Sparses.{listed_none}
use Rattle.pmem.proofs.sparse_lines.SparseLinesLines.collapse.Goals as goal

pub invariant_of-self : goal.invariant_of-self
invariant_of-self c = (
  cut_tidy (record {
    count = c.self.inside.count;
    words = c.self.inside.words.items;
    kept = c.self.inside.kept;
  }) c.leave_all.new.words.items c.leave_all.new.lines c.self.invariant.0
      c.leave_all.ensures.length c.leave_all.ensures.none,
  inr (listed_none c.self.inside.marked.items c.leave_all.new.lines c.leave_all.ensures.none),
  c.start_at.ensures.known c.leave_all.new.words.items,
)

pub returns-clause-done : goal.returns-clause-done
returns-clause-done c =
    let s : Sparse = record {
      count = c.self.inside.count;
      words = c.self.inside.words.items;
      kept = c.self.inside.kept;
    } in
    cut_sparse s c.leave_all.new.words.items c.leave_all.new.lines c.args.choice.now
    c.leave_all.ensures.none
    (λ l q. c.leave_all.ensures.left l q
    ∙ ap (λ (ps : List Pick). kept c.args.choice.now.rest (picked ps l)
    (sparse_line s.words (kept_at s.kept l) l) q) c.as_slice-picks.ensures)
    ∙ ap (λ (z : Sparse). collapse (sparse_memory z) c.args.choice.now) c.self.view_is
