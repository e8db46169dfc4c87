use Rattle.cache_model.proofs.Lists.{flush_memory}
use Rattle.cache_model.proofs.cache.Cache.flush.Goals as goal

pub returns-clause-done : goal.returns-clause-done
returns-clause-done c = flush_memory _ _ _ _ _ c.self.view_is c.requires
    c.index_mut-versions.ensures.value c.flush.ensures
