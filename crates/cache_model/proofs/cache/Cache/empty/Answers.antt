use Rattle.cache_model.proofs.Lists.{blank_memory}
use Rattle.cache_model.proofs.cache.Cache.empty.Goals as goal

pub returns : goal.returns
returns c = blank_memory _ 0 c.new.ensures.items
