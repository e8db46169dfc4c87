use Rattle.std.proofs.Common.{◌∙◌}
use Rattle.cache_model.specs.Cache.{view}
use Rattle.cnvm_cli.proofs.meant.PoolMeaning.{made_words}
use Rattle.cnvm_cli.proofs.pool.run_missing.Goals as goal

pub run_new-requires-clause-holds : goal.run_new-requires-clause-holds
run_new-requires-clause-holds g c =
    let m = g.N.Lines.memory c.create_held.new.dev.lines in
    made_words (g.G.File.LineFile.content c.in-Made.file) (view m.cache) c.as_slice.result.now
    m.lines (c.as_slice.ensures ∙ c.in-Ok.ensures.creates.2) c.in-Made.ensures.holds
