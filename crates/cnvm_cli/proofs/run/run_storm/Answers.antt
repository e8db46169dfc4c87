use Rattle.std.proofs.Common.{inr}
use Rattle.cnvm_compile.specs.Compilation.{IsCompiled}
use Rattle.cnvm_cli.proofs.texts.Sources.{known_bytes}
use Rattle.cnvm_cli.proofs.run.run_storm.Goals as goal

pub look_up-requires : goal.look_up-requires
look_up-requires g c =
    let is = known_bytes _ (λ text. IsCompiled c.args.asked text c.in-Ok.compiled)
    c.in-Ok.ensures.told in
    is.1.well_formed

pub returns-in-Ok-clause-ends : goal.returns-in-Ok-clause-ends
returns-in-Ok-clause-ends g c =
    inr (c.in-Ok.compiled, c.in-Ok.ensures.told, c.storm_over-status.ensures.storms)
