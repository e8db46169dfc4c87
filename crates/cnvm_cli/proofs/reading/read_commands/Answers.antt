use Rattle.std.proofs.Common.{◌∙◌}
use Rattle.cnvm_script.specs.Commands.{script_meaning}
use Rattle.cnvm_cli.proofs.texts.Sources.{of_long, script_read}
use Rattle.cnvm_cli.proofs.texts.Verdicts.{text_long}
use Rattle.cnvm_cli.proofs.reading.read_commands.Goals as goal

pub returns-in-Err-Long-clause-told : goal.returns-in-Err-Long-clause-told
returns-in-Err-Long-clause-told g c =
    of_long _ 1048576 _ (λ text long. long)
    (λ text told. text_long _ _ text c.in-Err-Long.field-0-is
    (c.in-Err-Long.ensures.told text told))

pub returns-clause-told : goal.returns-clause-told
returns-clause-told g c =
    script_read script_meaning _ c.commands_of.result _
    (λ text told. c.as_slice.ensures ∙ (c.in-Ok.ensures.told text told).0) c.commands_of.ensures.are
