use Rattle.program_notes.proofs.Refusals.{placed}
use Rattle.program_notes.proofs.program.at.Goals as goal

pub returns : goal.returns
returns c = record { tells = placed _ _ _ _ _ c.requires c.in_ok-message.ensures.begins }
