use Rattle.std.proofs.Common.{List, inl, inr, refl, subst}
use Rattle.cnvm_compile.specs.Compilation.{IsCompiled}
use Rattle.workers_script.specs.declared.command.WorkersCommand.{WorkersCommand}
use Rattle.cnvm_cli.specs.inside.WorkersEnds.{WorkersRanAs}
use Rattle.cnvm_cli.proofs.texts.Sources.{known_bytes}
use Rattle.cnvm_cli.proofs.workers.run_script.Goals as goal

pub look_up-requires : goal.look_up-requires
look_up-requires g c =
    let is = known_bytes _ (λ text. IsCompiled c.args.asked text c.in-Ok.crew.compiled)
    c.in-Ok.ensures.told.0 in
    is.1.well_formed

pub returns-in-Ok-clause-ends : goal.returns-in-Ok-clause-ends
returns-in-Ok-clause-ends g c =
    let written = g.K.Sink.written in
    let dev = g.P.PmemWork.device in
    inr (
      c.in-Ok.crew.compiled,
      c.in-Ok.crew.commands,
      c.in-Ok.ensures.told.0,
      c.in-Ok.ensures.told.1,
      subst
          (λ (commands : List WorkersCommand). WorkersRanAs c.in-Ok.crew.compiled.program
          c.args.count commands c.run_turns-status.result (written c.args.world.now.out)
          (written c.run_turns-status.new.out) (dev c.args.world.now.dev)
          (dev c.run_turns-status.new.dev) c.args.steps.now c.run_turns-status.new.steps)
          c.as_slice.ensures c.run_turns-status.ensures.ran,
    )

pub returns-in-Err-clause-ends : goal.returns-in-Err-clause-ends
returns-in-Err-clause-ends g c =
    inl (c.in-Err.refused, c.in-Err.ensures.told, c.refuse.ensures.refused, refl, refl)
