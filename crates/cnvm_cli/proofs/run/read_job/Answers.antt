use Rattle.std.proofs.Common.{inl, inr}
use Rattle.cnvm_compile.specs.Compilation.{IsCompiled}
use Rattle.cnvm_cli.specs.Verdict.{IsAccepted}
use Rattle.cnvm_cli.proofs.texts.Sources.{of_map}
use Rattle.cnvm_cli.proofs.run.read_job.Goals as goal

pub returns-in-Err-clause-told : goal.returns-in-Err-clause-told
returns-in-Err-clause-told g c = inl c.in-Err.ensures.told

pub returns-in-Ok-read_commands-clause-told : goal.returns-in-Ok-read_commands-clause-told
returns-in-Ok-read_commands-clause-told g c =
    (c.in-Ok.ensures.told, c.in-Ok-read_commands.ensures.told)

pub returns-in-Err-read_commands-clause-told : goal.returns-in-Err-read_commands-clause-told
returns-in-Err-read_commands-clause-told g c =
    inr (
      of_map _ (λ text. IsCompiled c.args.asked text c.in-Ok.compiled) (IsAccepted c.args.asked)
          (λ text is. (c.in-Ok.compiled, is)) c.in-Ok.ensures.told,
      c.in-Err-read_commands.ensures.told,
    )
