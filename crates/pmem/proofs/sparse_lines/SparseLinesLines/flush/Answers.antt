use Rattle.std.proofs.Common.{ap, ◌∙◌}
use Rattle.cache_model.specs.Event.{Flush}
use Rattle.cache_model.specs.Play.{after}
use Rattle.pmem.specs.Sparse.{Sparse, sparse_memory}
use Rattle.pmem.proofs.Sparses.{flush_sparse, tidy_flush, listed_flushed}
use Rattle.pmem.proofs.sparse_lines.SparseLinesLines.flush.Goals as goal

pub invariant_of-self : goal.invariant_of-self
invariant_of-self c =
    let m = c.mark_listed-self-inside in
    let s : Sparse = record {
      count = c.self.inside.count;
      words = c.self.inside.words.items;
      kept = c.self.inside.kept;
    } in (
      tidy_flush s m.new.kept c.args.line c.self.invariant.0 m.ensures.kept,
      listed_flushed c.self.inside.unlisted m.result c.self.inside.marked.items
          m.new.marked.items s.kept m.new.kept c.args.line
          c.self.invariant.1 m.ensures.listed m.ensures.kept,
      c.self.invariant.2,
    )

pub returns : goal.returns
returns c =
    let m = c.mark_listed-self-inside in
    let s : Sparse = record {
      count = c.self.inside.count;
      words = c.self.inside.words.items;
      kept = c.self.inside.kept;
    } in
    flush_sparse s m.new.kept c.args.line m.ensures.kept
    ∙ ap (λ (z : Sparse). after (sparse_memory z) (Flush c.args.line)) c.self.view_is
