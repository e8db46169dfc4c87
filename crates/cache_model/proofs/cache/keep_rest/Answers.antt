use Rattle.std.proofs.lemmas.List.Edits.{map_over_more}
use Rattle.cache_model.specs.inside.Lists.{list_rest}
use Rattle.cache_model.proofs.Lefts.{whole_set}
use Rattle.cache_model.proofs.cache.keep_rest.Goals as goal

pub loop-line-preserved : goal.loop-line-preserved
loop-line-preserved c = (
  rw (c.keep_rest.ensures.kept, ← c.line-item.is)
      (map_over_more (list_rest c.args.rest) _ _ _ _ c.loop-line-test.true c.loop-line.invariant.0
      c.line-item.is),
  whole_set _ _ _ c.loop-line.invariant.1 c.keep_rest.ensures.whole,
)
