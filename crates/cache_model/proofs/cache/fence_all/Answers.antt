use Rattle.std.proofs.lemmas.List.Edits.{map_over_more}
use Rattle.cache_model.specs.inside.Lists.{list_fence}
use Rattle.cache_model.proofs.cache.fence_all.Goals as goal

pub loop-line-preserved : goal.loop-line-preserved
loop-line-preserved c = rw (c.fence.ensures, ← c.line-item.is)
    (map_over_more list_fence _ _ _ _ c.loop-line-test.true c.loop-line.invariant c.line-item.is)
