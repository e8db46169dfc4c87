use Rattle.std.proofs.Common.{inr, ap, ◌∙◌, ◌≡◌, ◌⊎◌, List, ℕ, true, subst, sym}
use Rattle.pmem.specs.inside.Sparse.{AreListed}
use Rattle.cache_model.specs.Event.{Fence}
use Rattle.cache_model.specs.Play.{after}
use Rattle.pmem.specs.Sparse.{Sparse, sparse_memory}
use Rattle.pmem.proofs.Sparses.{fence_sparse, tidy_fence, listed_empty}
use Rattle.pmem.proofs.sparse_lines.SparseLinesLines.fence.Goals as goal

pub invariant_of-self : goal.invariant_of-self
invariant_of-self c =
    let s : Sparse = record {
      count = c.self.inside.count;
      words = c.self.inside.words.items;
      kept = c.self.inside.kept;
    } in (
      tidy_fence s c.fence_marked.new.kept c.self.invariant.0 c.fence_marked.ensures,
      inr (listed_empty c.clear.new.self.items c.clear.ensures.items s.kept
          c.fence_marked.new.kept c.fence_marked.ensures),
      c.self.invariant.2,
    )

pub fence_marked-requires-clause-listed : goal.fence_marked-requires-clause-listed
fence_marked-requires-clause-listed c = subst (λ (ls : List ℕ).
    (c.self.inside.unlisted ≡ true) ⊎ AreListed ls c.self.inside.kept)
    (sym c.as_slice.ensures.value) c.self.invariant.1

pub fence_marked-requires-clause-few : goal.fence_marked-requires-clause-few
fence_marked-requires-clause-few c = c.self.invariant.0.lines

pub fence_marked-requires-clause-more : goal.fence_marked-requires-clause-more
fence_marked-requires-clause-more c = c.self.invariant.0.more

pub returns : goal.returns
returns c =
    let s : Sparse = record {
      count = c.self.inside.count;
      words = c.self.inside.words.items;
      kept = c.self.inside.kept;
    } in
    fence_sparse s c.fence_marked.new.kept c.fence_marked.ensures
    ∙ ap (λ (z : Sparse). after (sparse_memory z) Fence) c.self.view_is
