use Rattle.cache_model.proofs.Lists.{fence_memory, fence_whole}
use Rattle.cache_model.proofs.cache.Cache.fence.Goals as goal

pub invariant_of-self : goal.invariant_of-self
invariant_of-self c = rw c.fence_all.ensures (fence_whole _ c.self.invariant)

pub returns-clause-done : goal.returns-clause-done
returns-clause-done c = rw c.fence_all.ensures (fence_memory _ _ c.self.view_is)
