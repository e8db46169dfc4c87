use Rattle.std.proofs.Common.{inr, Ok, ◌∙◌}
use Rattle.cache_model.specs.Cache.{view}
use Rattle.file_pmem.specs.Mirror.{file_device}
use Rattle.cnvm_cli.proofs.meant.PoolMeaning.{made_words}
use Rattle.cnvm_cli.proofs.Standing.{made_stands}
use Rattle.cnvm_cli.proofs.serving.serve_missing.Goals as goal

pub serve_made-served-requires-clause-holds : goal.serve_made-served-requires-clause-holds
serve_made-served-requires-clause-holds g c =
    let m = g.N.Lines.memory c.create_held.new.dev.lines in
    made_words (g.G.File.LineFile.content c.in-Made.file) (view m.cache) c.as_slice.result.now
    m.lines (c.as_slice.ensures ∙ c.in-Ok.ensures.creates.2) c.in-Made.ensures.holds

pub returns-in-Made-clause-ends : goal.returns-in-Made-clause-ends
returns-in-Made-clause-ends g c =
    inr (inr (
      file_device g.N.Lines.memory c.create_held.new.dev,
      c.in-Ok.ensures.creates.0,
      (
        Ok c.serve_made-served.result,
        _,
        c.status_of.ensures.status,
        made_stands c.serve_made-served.result _ c.serve_made-served.ensures.done_kept
            c.serve_made-served.ensures.read_kept c.serve_made-served.ensures.given_up,
        c.serve_made-served.ensures.served,
      ),
    ))
