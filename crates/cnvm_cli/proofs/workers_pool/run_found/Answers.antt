use Rattle.std.proofs.Common.{inr}
use Rattle.cnvm_cli.proofs.meant.PoolMeaning.{tells_file}
use Rattle.cnvm_cli.proofs.workers_pool.run_found.Goals as goal

pub returns-in-Held-clause-ends : goal.returns-in-Held-clause-ends
returns-in-Held-clause-ends g c =
    let content = g.G.File.LineFile.content in
    inr (inr (inr (
      content c.in-Held.file,
      tells_file content c.in-Held.file _ _ c.in-Held.ensures.answer,
      c.run_images.ensures.ends (g.G.Pools.found c.args.pools.now),
    )))
