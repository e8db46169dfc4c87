use Rattle.std.proofs.Common.{◌∙◌}
use Rattle.cnvm_cli.proofs.texts.Sources.{of_long, program_read}
use Rattle.cnvm_cli.proofs.texts.Verdicts.{text_long, long_refused}
use Rattle.cnvm_cli.proofs.reading.read_program.Goals as goal

pub returns-in-Err-Long-clause-told : goal.returns-in-Err-Long-clause-told
returns-in-Err-Long-clause-told g c =
    of_long _ 262144 _ long_refused
    (λ text told. text_long _ _ text c.in-Err-Long.field-0-is
    (c.in-Err-Long.ensures.told text told))

pub returns-clause-told : goal.returns-clause-told
returns-clause-told g c =
    program_read c.args.asked _ c.program_of.result _
    (λ text told. c.as_slice.ensures ∙ (c.in-Ok.ensures.told text told).0) c.program_of.ensures.is
