use Rattle.std.proofs.Common.{inr}
use Rattle.cnvm_compile.specs.Compilation.{IsCompiled}
use Rattle.cnvm_cli.proofs.texts.Sources.{known_bytes}
use Rattle.cnvm_cli.proofs.pool.run_file.Goals as goal

pub look_up-requires : goal.look_up-requires
look_up-requires g c =
    let is = known_bytes _ (λ text. IsCompiled c.args.asked text c.in-Ok.job.compiled)
    c.in-Ok.ensures.told.0 in
    is.1.well_formed

pub run_found-status-requires : goal.run_found-status-requires
run_found-status-requires g c =
    known_bytes _ (λ text. IsCompiled c.args.asked text c.in-Ok.job.compiled)
    c.in-Ok.ensures.told.0

pub returns-in-Ok-clause-ends : goal.returns-in-Ok-clause-ends
returns-in-Ok-clause-ends g c =
    inr (
      c.in-Ok.job.compiled,
      c.in-Ok.job.script,
      c.in-Ok.ensures.told,
      c.run_found-status.ensures.ends,
    )
