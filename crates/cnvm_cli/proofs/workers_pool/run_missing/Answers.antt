use Rattle.std.proofs.Common.{◌∙◌}
use Rattle.cache_model.specs.Cache.{view}
use Rattle.cnvm_cli.specs.PoolSide.{held_by, pool_side}
use Rattle.cnvm_cli.proofs.CrewRunning.{new_by}
use Rattle.cnvm_cli.proofs.meant.PoolMeaning.{made_words}
use Rattle.cnvm_cli.proofs.workers_pool.run_missing.Goals as goal

pub run_new-requires-clause-holds : goal.run_new-requires-clause-holds
run_new-requires-clause-holds g c =
    let m = g.N.Lines.memory c.create_held.new.dev.lines in
    made_words (g.G.File.LineFile.content c.in-Made.file) (view m.cache) c.as_slice.result.now
    m.lines (c.as_slice.ensures ∙ c.in-Ok.ensures.creates.2) c.in-Made.ensures.holds

pub returns-in-Made-clause-ends : goal.returns-in-Made-clause-ends
returns-in-Made-clause-ends g c =
    let memory = g.N.Lines.memory in
    let content = g.G.File.LineFile.content in
    let before = pool_side (g.G.Pools.found c.args.pools.now) (g.K.Sink.written c.args.out.now)
    (held_by memory content c.args.dev.now) c.args.steps.now in
    let after = pool_side (g.G.Pools.found c.make.new.self) (g.K.Sink.written c.run_new.new.out)
    (held_by memory content c.run_new.new.dev) c.run_new.new.steps in
    new_by c.args.crew.now.compiled.program c.args.count c.as_slice-commands.result.now
    c.args.crew.now.commands c.run_new.result c.status_of.result before after
    c.status_of.ensures.value c.as_slice-commands.ensures _ _
    c.in-Ok.ensures.creates.0 c.in-Ok.ensures.creates.1 c.run_new.ensures.ran
